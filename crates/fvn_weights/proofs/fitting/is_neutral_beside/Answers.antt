-- Both coefficients are one, and both constants nothing.
use Rattle.fvn_weights.specs.Values.{IsNeutral}
use Rattle.fvn_weights.specs.Weighing.{linear}
use Rattle.fvn_weights.proofs.FitTests.{refused}
use Rattle.fvn_weights.proofs.fitting.is_neutral_beside.Goals as goal

pub returns-then-not-ones : goal.returns-then-not-ones
returns-then-not-ones c = refused (IsNeutral (linear c.args.weights.now.list) c.args.f c.args.e) c.has_ones-ones.result (λ h. c.has_ones-ones.ensures.1 (h.0, h.1.0)) c.if-not-ones.true

pub returns-then-not-own : goal.returns-then-not-own
returns-then-not-own c = refused (IsNeutral (linear c.args.weights.now.list) c.args.f c.args.e) c.adds_nothing-own.result (λ h. c.adds_nothing-own.ensures.1 h.1.1.0) c.if-not-own.true

pub returns : goal.returns
returns c = (
  λ t. let o = c.has_ones-ones.ensures.0 c.if-not-ones.false in (o.0, (o.1, (c.adds_nothing-own.ensures.0 c.if-not-own.false, c.adds_nothing-other.ensures.0 t))),
  λ h. c.adds_nothing-other.ensures.1 h.1.1.1,
)
