-- What is asked of operators with an identity alone.
use Rattle.std.proofs.Common.{◌≡◌, None, Some, refl, sym, subst, ◌∙◌}
use Rattle.fvn_base.proofs.Options.{Some-injective}
use Rattle.fvn_weights.specs.Values.{IsNeutral}
use Rattle.fvn_weights.specs.Weighing.{linear}
use Rattle.fvn_weights.proofs.fitting.is_neutral.Goals as goal

pub returns-in-Some : goal.returns-in-Some
returns-in-Some c = (
  λ t e is. subst (IsNeutral (linear c.args.weights.now.list) c.args.f) (Some-injective (sym c.in-Some.is ∙ c.identity.ensures ∙ is)) (c.is_neutral_beside-neutral.ensures.0 t),
  λ h. c.is_neutral_beside-neutral.ensures.1 (h c.in-Some.e (sym c.identity.ensures ∙ c.in-Some.is)),
)

pub returns-in-None : goal.returns-in-None
returns-in-None c = (λ t e is. absurd (let q : None ≡ Some e = sym c.in-None.is ∙ c.identity.ensures ∙ is in cc), λ h. refl)
