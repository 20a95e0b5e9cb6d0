-- The cases of an operator over arguments.
use Rattle.std.proofs.Common.{◌≡◌, Option, None, Some, sym, ◌∙◌, inl, inr}
use Rattle.fvn_terms.specs.declared.plain.OpId.{OpId}
use Rattle.fvn_cohere.proofs.Foreseen.{none_suits, over_plain, over_joined}
use Rattle.fvn_cohere.proofs.outlooks.outlook_over.Goals as goal

-- where none is found, there is none
no_identity : {i : Option OpId} (o : Option OpId) → o ≡ None → o ≡ i → (e : OpId) → i ≡ Some e → ⊥
no_identity o p q e r = let none : None ≡ Some e = sym p ∙ q ∙ r in cc

pub returns-then-parts-eq0 : goal.returns-then-parts-eq0
returns-then-parts-eq0 c = λ shapes h args. none_suits c.args.sig.now c.args.f c.args.parts.now c.constant_outlook.result c.if-parts-eq0.true c.constant_outlook.ensures shapes h

pub returns-then-parts-ne2 : goal.returns-then-parts-ne2
returns-then-parts-ne2 c =
    over_plain c.args.sig.now c.recall_good.ensures c.args.f c.args.parts.now c.low_over-low.result c.high_over-high.result c.low_over-low.ensures c.high_over-high.ensures c.if-parts-eq0.false (inl c.if-parts-ne2.true)

pub returns-in-None : goal.returns-in-None
returns-in-None c =
    over_plain c.args.sig.now c.recall_good.ensures c.args.f c.args.parts.now c.low_over-low.result c.high_over-high.result c.low_over-low.ensures c.high_over-high.ensures c.if-parts-eq0.false (inr (no_identity c.identity.result c.in-None.is c.identity.ensures))

pub returns-in-Some : goal.returns-in-Some
returns-in-Some c =
    over_joined c.args.sig.now c.recall_good.ensures c.args.f c.args.parts.now c.low_over-low.result c.high_over-high.result c.low_over-low.ensures c.high_over-high.ensures
    c.part_at-a.result c.part_at-b.result c.joined.result c.if-parts-ne2.false (sym c.part_at-a.ensures) (sym c.part_at-b.ensures) c.joined.ensures
