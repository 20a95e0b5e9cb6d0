-- It is the operator, or it does not use the class.
use Rattle.std.proofs.Common.{◌≡◌, refl, sym, ap, ◌∙◌}
use Rattle.std.proofs.lemmas.Bool.{eq-eqb, false≢true}
use Rattle.fvn_terms.specs.declared.plain.OpId.{OpId}
use Rattle.fvn_forms.proofs.Sums.{same_op_is}
use Rattle.fvn_combine_candidates.proofs.Letting.{not_told}
use Rattle.fvn_combine_candidates.proofs.vanishing.is_user_only.Goals as goal

pub returns-then-eq : goal.returns-then-eq
returns-then-eq c = (λ _ _. same_op_is c.args.sums.now.operator c.args.f (sym c.eq.ensures ∙ c.if-eq.true), λ _. refl)

pub returns : goal.returns
returns c =
    let other = λ (same : c.args.sums.now.operator ≡ c.args.f). false≢true (sym c.if-eq.false ∙ c.eq.ensures ∙ eq-eqb c.args.sums.now.operator.0 c.args.f.0 (ap (λ (o : OpId). o.0) same)) in
    let told = not_told c.uses.result c.uses.ensures in
    (λ t u. absurd (told.0 t u), λ h. told.1 (λ u. other (h u)))
