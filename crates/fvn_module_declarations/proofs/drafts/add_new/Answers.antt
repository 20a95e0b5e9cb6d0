-- A declaration is added where its code is new.
use Rattle.std.proofs.Common.{◌≡◌, ◌<◌, length, map, sym, ap, subst, ◌∙◌, arith}
use Rattle.std.specs.List.{All}
use Rattle.fvn_signature_draft.specs.declared.collected.Collected.{Collected}
use Rattle.fvn_syntax.specs.Texts.{place_or_end}
use Rattle.fvn_module_declarations.specs.inner.Codes.{code}
use Rattle.fvn_module_declarations.specs.inner.Drafts.{declared}
use Rattle.fvn_module_declarations.proofs.DraftLemmas.{one-there, codes-there, one-new, codes-new}
use Rattle.fvn_module_declarations.proofs.drafts.add_new.Goals as goal
use Rattle.fvn_module_declarations.proofs.drafts.add_new.Goals.{In_ok-place}

module _ (c : In_ok-place) where
  text_is : c.as_slice.result.now ≡ code (declared c.args.op c.args.shape.now c.args.axioms)
  text_is = c.as_slice.ensures.value ∙ c.in_ok-text.ensures

  known : All (λ e. e.op.0 < c.args.builder.operators) c.args.builder.declarations
  known = subst (λ (b : Collected). All (λ e. e.op.0 < b.operators) b.declarations) c.builder.view_is c.builder.invariant.operators

  new_place : c.in_ok-place.place ≡ c.len-count.result → place_or_end c.args.codes.now c.as_slice.result.now ≡ length c.args.codes.now
  new_place e = sym c.in_ok-place.ensures.place ∙ e ∙ c.len-count.ensures.exact

  old_place : (c.in_ok-place.place ≡ c.len-count.result → ⊥) → place_or_end c.args.codes.now c.as_slice.result.now ≡ length c.args.codes.now → ⊥
  old_place ne e = ne (c.in_ok-place.ensures.place ∙ e ∙ sym c.len-count.ensures.exact)

pub returns-then-place-count-clause-exact : goal.returns-then-place-count-clause-exact
returns-then-place-count-clause-exact c =
    let d = (goal.at.returns-then-place-count-clause-exact c).In_ok-place in
    one-there c.args.builder c.args.codes.now (declared c.args.op c.args.shape.now c.args.axioms) c.as_slice.result.now c.requires.codes (text_is d) (old_place d (λ e. omega (arith, c.if-place-count.true))) (known d)

pub returns-then-place-count-clause-codes : goal.returns-then-place-count-clause-codes
returns-then-place-count-clause-codes c =
    let d = (goal.at.returns-then-place-count-clause-codes c).In_ok-place in
    c.in_ok-place.ensures.texts
    ∙ codes-there c.args.builder c.args.codes.now (declared c.args.op c.args.shape.now c.args.axioms) c.as_slice.result.now c.requires.codes (text_is d) (old_place d (λ e. omega (arith, c.if-place-count.true)))

pub returns-clause-exact : goal.returns-clause-exact
returns-clause-exact c =
    let d = (goal.at.returns-clause-exact c).In_ok-place in
    rw c.in_ok-rank.ensures at c.in_ok-builder.ensures
    ∙ one-new c.args.builder c.args.codes.now (declared c.args.op c.args.shape.now c.args.axioms) c.as_slice.result.now c.requires.codes (text_is d) (new_place d (omega (arith, c.if-place-count.false)))

pub returns-clause-codes : goal.returns-clause-codes
returns-clause-codes c =
    let d = (goal.at.returns-clause-codes c).In_ok-place in
    c.in_ok-place.ensures.texts
    ∙ codes-new c.args.builder c.args.codes.now (declared c.args.op c.args.shape.now c.args.axioms) c.as_slice.result.now c.requires.codes (text_is d) (new_place d (omega (arith, c.if-place-count.false)))
    ∙ ap (λ (b : Collected). map code b.declarations) (sym (rw c.in_ok-rank.ensures at c.in_ok-builder.ensures))
