-- Both coefficients are one.
use Rattle.fvn_weights.specs.Values.{HasOnes}
use Rattle.fvn_weights.specs.Weighing.{linear}
use Rattle.fvn_weights.proofs.FitTests.{refused}
use Rattle.fvn_weights.proofs.fitting.has_ones.Goals as goal

pub returns-then-not-first : goal.returns-then-not-first
returns-then-not-first c = refused (HasOnes (linear c.args.weights.now.list) c.args.f) c.counts_once-first.result (λ h. c.counts_once-first.ensures.1 h.0) c.if-not-first.true

pub returns : goal.returns
returns c = (λ t. (c.counts_once-first.ensures.0 c.if-not-first.false, c.counts_once-second.ensures.0 t), λ h. c.counts_once-second.ensures.1 h.1)
