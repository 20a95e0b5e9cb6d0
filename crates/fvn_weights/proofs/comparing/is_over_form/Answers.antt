-- The constant, or the number of a variable.
use Rattle.std.proofs.Common.{◌≡◌, inl, inr, refl, true}
use Rattle.fvn_weights.proofs.FitTests.{contradicts}
use Rattle.fvn_weights.proofs.comparing.is_over_form.Goals as goal

pub returns-then-over : goal.returns-then-over
returns-then-over c = (λ t. inl (c.is_over-over.ensures.0 c.if-over.true), λ h. refl)

pub returns : goal.returns
returns c = (
  λ t. inr (c.has_over-some.ensures.0 t),
  λ h. elim h as (λ _. c.has_over-some.result ≡ true) [
    | inl over ↦ absurd (contradicts c.is_over-over.result (c.is_over-over.ensures.1 over) c.if-over.false)
    | inr some ↦ c.has_over-some.ensures.1 some
  ],
)
