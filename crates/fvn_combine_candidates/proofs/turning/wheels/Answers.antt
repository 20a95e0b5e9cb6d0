-- One more wheel.
use Rattle.std.proofs.Common.{List, [], ◌+◌, ◌≤◌, length, map, slice_index_or, sym, ap, ◌∙◌, subst, arith}
use Rattle.std.proofs.lemmas.List.{map_push}
use Rattle.fvn_combine_nodes.specs.States.{class_of}
use Rattle.fvn_combine_leaves.specs.declared.reading.Sums.{Sums}
use Rattle.fvn_combine_admissible.specs.Listed.{tag_in}
use Rattle.fvn_acunify_product.specs.Wheels.{wheel_of}
use Rattle.fvn_combine_candidates.specs.Turning.{IsWheel, AreWheels, HaveBounds}
use Rattle.fvn_combine_candidates.specs.inner.Walking.{IsBoundedWheel, AreWheelsBelow}
use Rattle.fvn_combine_candidates.proofs.Entries.{within_other, read_at, listed_at, read_of_other}
use Rattle.fvn_combine_candidates.proofs.Systems.{basis_is, basis_at, operator_at, sums_at}
use Rattle.fvn_combine_candidates.proofs.Walked.{more_wheels, all_wheels, all_bounds, with_bounds}
use Rattle.fvn_combine_candidates.proofs.turning.wheels.Goals as goal

pub choices_of-requires-clause-basis : goal.choices_of-requires-clause-basis
choices_of-requires-clause-basis c =
    let sums = c.args.reading.now.sums in
    let bases = c.args.bases.now in
    let i = c.loop-i.i in
    let e = c.index-sums-i.result in
    let as_many = c.requires.bases.as_many in
    let l = within_other c.as_slice-sums.result.now sums i c.as_slice-sums.ensures c.loop-i-test.true in
    basis_at sums bases c.requires.bases i e c.as_slice-basis.result.now l (read_of_other c.as_slice-sums.result.now sums i e c.as_slice-sums.ensures c.index-sums-i.is)
    (basis_is bases i c.as_slice-basis.result.now c.index-bases-i.result (omega (arith, l, as_many)) c.index-bases-i.is c.as_slice-basis.ensures)

pub bounded-requires-clause-associative : goal.bounded-requires-clause-associative
bounded-requires-clause-associative c =
    let sums = c.args.reading.now.sums in
    let i = c.loop-i.i in
    let e = c.index-sums-i.result in
    let l = within_other c.as_slice-sums.result.now sums i c.as_slice-sums.ensures c.loop-i-test.true in
    let at = read_at sums i e l (read_of_other c.as_slice-sums.result.now sums i e c.as_slice-sums.ensures c.index-sums-i.is) in
    (operator_at c.args.sig.now c.args.table.now (class_of c.args.state.now) c.args.reading.now c.requires.reading e (listed_at sums i e at)).associative

pub bounded-requires-clause-sums : goal.bounded-requires-clause-sums
bounded-requires-clause-sums c =
    let sums = c.args.reading.now.sums in
    let i = c.loop-i.i in
    let e = c.index-sums-i.result in
    let l = within_other c.as_slice-sums.result.now sums i c.as_slice-sums.ensures c.loop-i-test.true in
    let at = read_at sums i e l (read_of_other c.as_slice-sums.result.now sums i e c.as_slice-sums.ensures c.index-sums-i.is) in
    sums_at c.args.sig.now c.args.table.now (class_of c.args.state.now) c.args.reading.now c.requires.reading i e at

pub loop-i-preserved : goal.loop-i-preserved
loop-i-preserved c =
    let d = c.args.sig.now in
    let t = c.args.table.now in
    let class = class_of c.args.state.now in
    let tag = tag_in c.args.tags.now in
    let sums = c.args.reading.now.sums in
    let bases = c.args.bases.now in
    let i = c.loop-i.i in
    let e = c.index-sums-i.result in
    let as_many = c.requires.bases.as_many in
    let l = within_other c.as_slice-sums.result.now sums i c.as_slice-sums.ensures c.loop-i-test.true in
    let basis = basis_is bases i c.as_slice-basis.result.now c.index-bases-i.result (omega (arith, l, as_many)) c.index-bases-i.is c.as_slice-basis.ensures in
    let w = wheel_of c.in_ok-within.within in
    let k = c.in_ok-within.ensures in
    let asked = subst (λ b. IsWheel d t class tag e b (wheel_of c.in_ok-choices.choices)) basis c.in_ok-choices.ensures.asked in
    let here : IsBoundedWheel d t class tag c.args.sorted e (slice_index_or bases i []) w = (with_bounds d t class tag e (slice_index_or bases i []) (wheel_of c.in_ok-choices.choices) w k.constants k.may_be_zero k.basis k.full asked, k.bounds) in
    subst (AreWheelsBelow d t class tag c.args.sorted sums bases (i + 1)) (sym (ap (map wheel_of) c.in_ok-push.ensures.items ∙ map_push wheel_of c.loop-i.list.items c.in_ok-within.within))
    (more_wheels d t class tag c.args.sorted sums bases i (map wheel_of c.loop-i.list.items) e w l (read_of_other c.as_slice-sums.result.now sums i e c.as_slice-sums.ensures c.index-sums-i.is) c.loop-i.invariant here)

pub returns-clause-asked : goal.returns-clause-asked
returns-clause-asked c =
    let d = c.args.sig.now in
    let t = c.args.table.now in
    let class = class_of c.args.state.now in
    let tag = tag_in c.args.tags.now in
    let sums = c.args.reading.now.sums in
    let bases = c.args.bases.now in
    let i = c.loop-i.i in
    let all : length sums ≤ i = subst (λ (xs : List Sums). length xs ≤ i) c.as_slice-sums.ensures c.loop-i-test.false in
    let end : i ≤ length sums = subst (λ (xs : List Sums). i ≤ length xs) c.as_slice-sums.ensures (omega arith) in
    subst (AreWheels d t class tag sums bases) (sym c.in_ok-wheels.ensures.wheels) (all_wheels d t class tag c.args.sorted sums bases i (map wheel_of c.loop-i.list.items) all end c.loop-i.invariant)

pub returns-clause-bounds : goal.returns-clause-bounds
returns-clause-bounds c =
    let d = c.args.sig.now in
    let t = c.args.table.now in
    let class = class_of c.args.state.now in
    let sums = c.args.reading.now.sums in
    let i = c.loop-i.i in
    let all : length sums ≤ i = subst (λ (xs : List Sums). length xs ≤ i) c.as_slice-sums.ensures c.loop-i-test.false in
    let end : i ≤ length sums = subst (λ (xs : List Sums). i ≤ length xs) c.as_slice-sums.ensures (omega arith) in
    subst (HaveBounds d t class c.args.sorted sums) (sym c.in_ok-wheels.ensures.wheels)
    (all_bounds d t class (tag_in c.args.tags.now) c.args.sorted sums c.args.bases.now i (map wheel_of c.loop-i.list.items) all end c.loop-i.invariant)
