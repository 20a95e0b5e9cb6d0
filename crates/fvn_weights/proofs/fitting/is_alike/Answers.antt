-- What is asked of commutative operators alone.
use Rattle.std.proofs.Common.{refl, sym, subst}
use Rattle.fvn_terms.specs.Equality.{IsCommutative}
use Rattle.fvn_weights.proofs.FitTests.{contradicts}
use Rattle.fvn_weights.proofs.fitting.is_alike.Goals as goal

pub returns-then-not-commutes : goal.returns-then-not-commutes
returns-then-not-commutes c = (
  λ t k. absurd (contradicts c.is_commutative-commutes.result (c.is_commutative-commutes.ensures.holds.1 (subst IsCommutative (sym c.axioms-declared.ensures) k)) c.if-not-commutes.true),
  λ h. refl,
)

pub returns : goal.returns
returns c = (
  λ t k. c.counts_alike-alike.ensures.0 t,
  λ h. c.counts_alike-alike.ensures.1 (h (subst IsCommutative c.axioms-declared.ensures (c.is_commutative-commutes.ensures.holds.0 c.if-not-commutes.false))),
)
