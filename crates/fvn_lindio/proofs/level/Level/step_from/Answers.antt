-- One generator more.
use Rattle.fvn_lindio.specs.inner.Search.{IsOpposite}
use Rattle.fvn_lindio.specs.inner.Levels.{IsCovered}
use Rattle.fvn_lindio.specs.Vectors.{add}
use Rattle.fvn_lindio.proofs.LevelLemmas.{step_from_more, each_all}
use Rattle.fvn_lindio.proofs.level.Level.step_from.Goals as goal

pub loop-g-preserved : goal.loop-g-preserved
loop-g-preserved c = (
  step_from_more c.args.generators.now c.args.x.now c.g-item.result c.loop-g.g-index c.args.self.now c.loop-g.self c.step_by.new.self c.loop-g-test.true c.g-item.is c.loop-g.invariant.0 c.in_ok-step_by.ensures.grows c.in_ok-step_by.ensures.covered,
  λ h. c.in_ok-step_by.ensures.once (c.loop-g.invariant.1 h),
)

pub returns-clause-covered : goal.returns-clause-covered
returns-clause-covered c =
    let x = c.args.x.now in
    each_all (λ g. IsOpposite x.value g.value → IsCovered c.loop-g.self (add x.parts.items g.parts.items)) c.args.generators.now c.loop-g.g-index c.loop-g-test.false c.loop-g.invariant.0.1
