-- One more operator.
use Rattle.std.proofs.Common.{◌≡◌, ◌+◌, ◌<◌, length, sym, ap, subst, arith, Some}
use Rattle.std.specs.Prelude.{slice_get}
use Rattle.fvn_terms.specs.Signature.{axioms}
use Rattle.fvn_terms.specs.Equality.{IsAssociative}
use Rattle.fvn_combine_nodes.specs.States.{class_of}
use Rattle.fvn_combine_leaves.specs.Readings.{AreSums}
use Rattle.fvn_combine_candidates.specs.inner.Alive.{IsAliveBasis}
use Rattle.fvn_combine_candidates.specs.inner.Walking.{AreBasesBelow}
use Rattle.fvn_combine_candidates.proofs.Entries.{within_other, read_at, listed_at, read_of_other}
use Rattle.fvn_combine_candidates.proofs.Systems.{operator_at, sums_at}
use Rattle.fvn_combine_candidates.proofs.Walked.{more_bases, all_bases, all_alive}
use Rattle.fvn_combine_candidates.proofs.last_first.bases_from_last.Goals as goal
use Rattle.fvn_combine_candidates.proofs.last_first.bases_from_last.Goals.{After-index-sums-i}

-- the entry of the operator
at : (c : After-index-sums-i) → slice_get c.args.reading.now.sums c.loop-i.i ≡ Some c.index-sums-i.result
at c =
    let sums = c.args.reading.now.sums in
    let i = c.loop-i.i in
    let e = c.index-sums-i.result in
    read_at sums i e (within_other c.as_slice-sums.result.now sums i c.as_slice-sums.ensures c.loop-i-test.true) (read_of_other c.as_slice-sums.result.now sums i e c.as_slice-sums.ensures c.index-sums-i.is)

associative : (c : After-index-sums-i) → IsAssociative (axioms c.args.sig.now c.index-sums-i.result.operator)
associative c =
    (operator_at c.args.sig.now c.args.table.now (class_of c.args.state.now) c.args.reading.now c.requires.reading c.index-sums-i.result (listed_at c.args.reading.now.sums c.loop-i.i c.index-sums-i.result (at c))).associative

are_sums : (c : After-index-sums-i) → AreSums c.args.sig.now c.args.table.now (class_of c.args.state.now) c.index-sums-i.result
are_sums c = sums_at c.args.sig.now c.args.table.now (class_of c.args.state.now) c.args.reading.now c.requires.reading c.loop-i.i c.index-sums-i.result (at c)

pub found_basis-requires-clause-associative : goal.found_basis-requires-clause-associative
found_basis-requires-clause-associative c = associative (goal.at.found_basis-requires-clause-associative c).After-index-sums-i

pub found_basis-requires-clause-sums : goal.found_basis-requires-clause-sums
found_basis-requires-clause-sums c = are_sums (goal.at.found_basis-requires-clause-sums c).After-index-sums-i

pub are_listed-requires-clause-associative : goal.are_listed-requires-clause-associative
are_listed-requires-clause-associative c = associative (goal.at.are_listed-requires-clause-associative c).After-index-sums-i

pub are_listed-requires-clause-listed : goal.are_listed-requires-clause-listed
are_listed-requires-clause-listed c =
    let sums = c.args.reading.now.sums in
    listed_at sums c.loop-i.i c.index-sums-i.result (at (goal.at.are_listed-requires-clause-listed c).After-index-sums-i)

pub are_listed-requires-clause-sums : goal.are_listed-requires-clause-sums
are_listed-requires-clause-sums c = are_sums (goal.at.are_listed-requires-clause-sums c).After-index-sums-i

pub loop-i-preserved : goal.loop-i-preserved
loop-i-preserved c =
    let P = IsAliveBasis c.args.sig.now c.args.table.now c.args.state.now in
    let sums = c.args.reading.now.sums in
    let i = c.loop-i.i in
    let e = c.index-sums-i.result in
    let l = within_other c.as_slice-sums.result.now sums i c.as_slice-sums.ensures c.loop-i-test.true in
    subst (AreBasesBelow P sums (i + 1)) (sym c.in_ok-push-in-Some.ensures.items)
    (more_bases P sums i c.loop-i.bases.items e c.in-Some.basis l (read_of_other c.as_slice-sums.result.now sums i e c.as_slice-sums.ensures c.index-sums-i.is) c.loop-i.invariant (rw c.in-Some.is at c.in_ok-found_basis.ensures))

pub returns-clause-bases : goal.returns-clause-bases
returns-clause-bases c =
    let same = ap length c.as_slice-sums.ensures in
    let l = c.loop-i-test.false in
    let k = c.loop-i.auto.i-end in
    all_bases c.args.sig.now c.args.table.now c.args.state.now c.args.reading.now.sums c.loop-i.i c.loop-i.bases.items (omega (arith, same, l, k)) (omega (arith, same, l, k)) c.loop-i.invariant

pub returns-clause-alive : goal.returns-clause-alive
returns-clause-alive c =
    let same = ap length c.as_slice-sums.ensures in
    let l = c.loop-i-test.false in
    let k = c.loop-i.auto.i-end in
    all_alive c.args.sig.now c.args.table.now c.args.state.now c.args.reading.now.sums c.loop-i.i c.loop-i.bases.items (omega (arith, same, l, k)) (omega (arith, same, l, k)) c.loop-i.invariant
