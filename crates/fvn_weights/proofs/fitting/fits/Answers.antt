-- All that is asked.
use Rattle.fvn_weights.specs.Values.{Fits}
use Rattle.fvn_weights.specs.Weighing.{linear}
use Rattle.fvn_weights.proofs.FitTests.{refused}
use Rattle.fvn_weights.proofs.fitting.fits.Goals as goal

pub returns-then-not-positive : goal.returns-then-not-positive
returns-then-not-positive c = refused (Fits c.args.sig.now (linear c.args.weights.now.list) c.args.f) c.is_positive-positive.result (λ h. c.is_positive-positive.ensures.1 h.positive) c.if-not-positive.true

pub returns-then-not-alike : goal.returns-then-not-alike
returns-then-not-alike c = refused (Fits c.args.sig.now (linear c.args.weights.now.list) c.args.f) c.is_alike-alike.result (λ h. c.is_alike-alike.ensures.1 h.alike) c.if-not-alike.true

pub returns-then-not-ones : goal.returns-then-not-ones
returns-then-not-ones c = refused (Fits c.args.sig.now (linear c.args.weights.now.list) c.args.f) c.is_plain_sum-ones.result (λ h. c.is_plain_sum-ones.ensures.1 h.ones) c.if-not-ones.true

pub returns : goal.returns
returns c = (
  λ t. record {
    positive = c.is_positive-positive.ensures.0 c.if-not-positive.false;
    alike = c.is_alike-alike.ensures.0 c.if-not-alike.false;
    ones = c.is_plain_sum-ones.ensures.0 c.if-not-ones.false;
    neutral = c.is_neutral-neutral.ensures.0 t;
  },
  λ h. c.is_neutral-neutral.ensures.1 h.neutral,
)
