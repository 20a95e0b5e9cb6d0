-- What is asked of associative operators alone.
use Rattle.std.proofs.Common.{refl, sym, subst}
use Rattle.fvn_terms.specs.Equality.{IsAssociative}
use Rattle.fvn_weights.proofs.FitTests.{contradicts}
use Rattle.fvn_weights.proofs.fitting.is_plain_sum.Goals as goal

pub returns-then-not-sums : goal.returns-then-not-sums
returns-then-not-sums c = (
  λ t k. absurd (contradicts c.is_sum-sums.result (c.is_sum-sums.ensures.holds.1 (subst IsAssociative (sym c.axioms-declared.ensures) k)) c.if-not-sums.true),
  λ h. refl,
)

pub returns : goal.returns
returns c = (
  λ t k. c.has_ones-ones.ensures.0 t,
  λ h. c.has_ones-ones.ensures.1 (h (subst IsAssociative c.axioms-declared.ensures (c.is_sum-sums.ensures.holds.0 c.if-not-sums.false))),
)
