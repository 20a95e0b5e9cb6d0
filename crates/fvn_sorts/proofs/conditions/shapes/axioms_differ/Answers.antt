-- Axioms differ exactly where some declaration has others than the first.
use Rattle.std.proofs.Common.{◌≡◌, List, refl, sym, subst, ◌∙◌, arith}
use Rattle.std.specs.List.{Contains}
use Rattle.std.proofs.lemmas.Bool.{false≢true}
use Rattle.fvn_signature_draft.specs.declared.collected.Declaration.{Declaration}
use Rattle.fvn_signature_draft.specs.Collected.{declarations_of, same_op}
use Rattle.fvn_base.proofs.Membership.{contains_filter}
use Rattle.fvn_signature_draft.proofs.Operators.{same_op-self}
use Rattle.fvn_sorts.proofs.ShapeLemmas.{differ_from_first, none_differ, same_axioms}
use Rattle.fvn_sorts.proofs.conditions.shapes.axioms_differ.Goals as goal

pub returns-then-has_other_axioms : goal.returns-then-has_other_axioms
returns-then-has_other_axioms c =
    let e : Declaration = c.declaration-item.result in
    let here : Contains c.as_slice-declaration-items.result.now e = (c.loop-declaration.declaration-index, c.loop-declaration-test.true, sym c.declaration-item.is) in
    let listed : Contains c.args.collected.now.declarations e = subst (λ (l : List Declaration). Contains l e) c.as_slice-declaration-items.ensures here in
    let other = c.if-has_other_axioms.ensures.0 refl in
    let of_op = contains_filter (λ (d : Declaration). same_op d.op c.args.op) c.args.collected.now.declarations e listed (same_op-self e.op c.args.op other.0) in
    (λ _. differ_from_first (declarations_of c.args.collected.now c.args.op) e of_op (λ q. other.1 (q ∙ sym c.first_axioms-first.ensures)), λ _. refl)

pub returns : goal.returns
returns c =
    let all : c.as_slice-declaration-items.result.now ≡ c.args.collected.now.declarations = c.as_slice-declaration-items.ensures in (
      λ h. absurd (false≢true h),
      λ w. absurd (none_differ c.args.collected.now c.args.op c.first_axioms-first.result (rw (← all) (λ k d l. c.loop-declaration.invariant k d (let past = c.loop-declaration-test.false in omega arith))) same_axioms w),
    )
