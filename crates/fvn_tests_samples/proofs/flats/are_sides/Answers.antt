-- One more pair of terms of one kind.
use Rattle.std.proofs.Common.{◌<◌, ◌≤◌, length, subst, arith}
use Rattle.fvn_base.proofs.MappedLists.{all_mapped_more, all_mapped_all}
use Rattle.fvn_terms.specs.Term.{Term}
use Rattle.fvn_terms.specs.declared.plain.SortId.{SortId}
use Rattle.fvn_terms.specs.declared.declarations.Declarations.{Declarations}
use Rattle.fvn_terms.specs.Signature.{kind, HasKind}
use Rattle.fvn_forms.specs.Flat.{FlatTerm, plain}
use Rattle.fvn_flat.specs.Problems.{IsProblem, plain_pairs}
use Rattle.fvn_tests_samples.proofs.flats.are_sides.Goals as goal

abbrev plain_pair : FlatTerm × FlatTerm → Term × Term
plain_pair p = (plain p.0, plain p.1)

abbrev Sides : Declarations → Term × Term → Type 0
Sides d p = (k : SortId) × HasKind d p.0 k × HasKind d p.1 k

pub loop-left-preserved : goal.loop-left-preserved
loop-left-preserved c =
    let d = c.args.sig.now in
    let items = c.as_slice-left-items.result.now in
    let i = c.loop-left.left-index in
    let within : i < length items = let a = c.loop-left-test.true in omega arith in
    let left = c.in_ok-is_side.ensures c.if-not-branch.false in
    let right = c.in_ok-is_side-2.ensures c.if-not-branch-2.false in
    all_mapped_more plain_pair (Sides d) items i c.loop-left-item.result within c.loop-left-item.is (kind d (record { 0 = 0 }), left, right) c.loop-left.invariant

pub returns : goal.returns
returns c told =
    let d = c.args.sig.now in
    let items = c.as_slice-left-items.result.now in
    let i = c.loop-left.left-index in
    let past : length items ≤ i = let a = c.loop-left-test.false in omega arith in
    subst (λ l. IsProblem d (plain_pairs l)) c.as_slice-left-items.ensures (all_mapped_all plain_pair (Sides d) items i past c.loop-left.invariant)
