-- One more operator.
use Rattle.std.proofs.Common.{List, ◌≤◌, length, slice_index, refl, sym, ◌∙◌, subst, arith}
use Rattle.std.proofs.lemmas.Bool.{false≢true}
use Rattle.std.proofs.lemmas.Option.{slice_get_within}
use Rattle.fvn_lindio.specs.declared.system.Solution.{Solution}
use Rattle.fvn_lindio.specs.Systems.{vectors_of}
use Rattle.fvn_acunify.specs.ValidChoice.{chosen}
use Rattle.fvn_combine_nodes.specs.States.{class_of}
use Rattle.fvn_combine_leaves.specs.declared.reading.Sums.{Sums}
use Rattle.fvn_combine_admissible.specs.Aliases.{HasNoAlias}
use Rattle.fvn_combine_admissible.specs.Listed.{tag_in}
use Rattle.fvn_combine_candidates.proofs.Entries.{within_other, read_of_other, read_at}
use Rattle.fvn_combine_candidates.proofs.Systems.{basis_is, basis_at, basis_long, sums_at}
use Rattle.fvn_combine_candidates.proofs.Walked.{more_none}
use Rattle.fvn_combine_candidates.proofs.aliases.leave_no_alias.Goals as goal

pub has_no_alias-requires-clause-sized : goal.has_no_alias-requires-clause-sized
has_no_alias-requires-clause-sized c =
    let r = c.args.reading.now in
    let sums = r.sums in
    let bases = c.args.bases.now in
    let i = c.loop-i.i in
    let e = c.index-sums-i.result in
    let as_many = c.requires.bases.as_many in
    let l = within_other c.as_slice-sums.result.now sums i c.as_slice-sums.ensures c.loop-i-test.true in
    let is = read_of_other c.as_slice-sums.result.now sums i e c.as_slice-sums.ensures c.index-sums-i.is in
    let basis = basis_is bases i c.as_slice-basis.result.now c.index-bases-i.result (omega (arith, l, as_many)) c.index-bases-i.is c.as_slice-basis.ensures in
    let wide = (sums_at c.args.sig.now c.args.table.now (class_of c.args.state.now) r c.requires.reading i e (read_at sums i e l is)).is_system.wide in
    basis_long e.system c.as_slice-basis.result.now (basis_at sums bases c.requires.bases i e c.as_slice-basis.result.now l is basis) (length e.columns) wide

pub returns-then-not-branch : goal.returns-then-not-branch
returns-then-not-branch c =
    let d = c.args.sig.now in
    let t = c.args.table.now in
    let class = class_of c.args.state.now in
    let tag = tag_in c.args.tags.now in
    let sums = c.args.reading.now.sums in
    let bases = c.args.bases.now in
    let numbers = c.args.numbers.now in
    let i = c.loop-i.i in
    let e = c.index-sums-i.result in
    let as_many = c.requires.bases.as_many in
    let l = within_other c.as_slice-sums.result.now sums i c.as_slice-sums.ensures c.loop-i-test.true in
    let is = read_of_other c.as_slice-sums.result.now sums i e c.as_slice-sums.ensures c.index-sums-i.is in
    let basis = basis_is bases i c.as_slice-basis.result.now c.index-bases-i.result (omega (arith, l, as_many)) c.index-bases-i.is c.as_slice-basis.ensures in (
      λ e. absurd (false≢true e),
      λ all. absurd (false≢true (sym c.if-not-branch.true ∙ c.in_ok-has_no_alias.ensures.1 (subst (λ (b : List Solution). HasNoAlias d t class tag e.operator e.columns (chosen (slice_index numbers i) (vectors_of b))) (sym basis) (all i e (read_at sums i e l is))))),
    )

pub loop-i-preserved : goal.loop-i-preserved
loop-i-preserved c =
    let d = c.args.sig.now in
    let t = c.args.table.now in
    let class = class_of c.args.state.now in
    let tag = tag_in c.args.tags.now in
    let sums = c.args.reading.now.sums in
    let bases = c.args.bases.now in
    let numbers = c.args.numbers.now in
    let i = c.loop-i.i in
    let e = c.index-sums-i.result in
    let as_many = c.requires.bases.as_many in
    let l = within_other c.as_slice-sums.result.now sums i c.as_slice-sums.ensures c.loop-i-test.true in
    let is = read_of_other c.as_slice-sums.result.now sums i e c.as_slice-sums.ensures c.index-sums-i.is in
    let basis = basis_is bases i c.as_slice-basis.result.now c.index-bases-i.result (omega (arith, l, as_many)) c.index-bases-i.is c.as_slice-basis.ensures in
    let here = subst (λ (b : List Solution). HasNoAlias d t class tag e.operator e.columns (chosen (slice_index numbers i) (vectors_of b))) basis (c.in_ok-has_no_alias.ensures.0 c.if-not-branch.false) in
    more_none d t class tag sums bases numbers i e l is c.loop-i.invariant here

pub returns : goal.returns
returns c =
    let sums = c.args.reading.now.sums in
    let i = c.loop-i.i in
    let all : length sums ≤ i = subst (λ (xs : List Sums). length xs ≤ i) c.as_slice-sums.ensures c.loop-i-test.false in (
      λ e j x is. c.loop-i.invariant j x (let l = slice_get_within sums j x is in omega (arith, l, all)) is,
      λ none. refl,
    )
