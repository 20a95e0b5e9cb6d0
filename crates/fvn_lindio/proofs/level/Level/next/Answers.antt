-- One vector more, and all of them in the end.
use Rattle.std.proofs.Common.{refl, subst}
use Rattle.fvn_lindio.specs.inner.Levels.{CoversSteps, CoversStepsFrom, Grows, IsStepFrom}
use Rattle.fvn_lindio.proofs.LevelLemmas.{step_more, each_all, anew, can_add_read}
use Rattle.fvn_lindio.proofs.level.Level.next.Goals as goal

pub step_from-requires : goal.step_from-requires
step_from-requires c = can_add_read c.args.generators.now c.args.self.ahead.items c.deref-x-items.result.now c.loop-x.x-index c.x-item.result c.deref-x-items.ensures.value c.loop-x-test.true c.x-item.is c.requires

pub loop-x-preserved : goal.loop-x-preserved
loop-x-preserved c = (
  step_more c.args.generators.now c.deref-x-items.result.now c.x-item.result c.loop-x.x-index record { found = c.args.self.found; ahead = c.new.result } c.loop-x.level c.step_from.new.self c.loop-x-test.true c.x-item.is c.loop-x.invariant.0 c.in_ok-step_from.ensures.grows c.in_ok-step_from.ensures.covered,
  c.in_ok-step_from.ensures.once c.loop-x.invariant.1,
)

pub returns-clause-grows : goal.returns-clause-grows
returns-clause-grows c =
    let gs = c.args.generators.now in
    anew (IsStepFrom gs c.args.self.ahead.items) c.args.self record { found = c.args.self.found; ahead = c.new.result } c.loop-x.level refl c.new.ensures.items
    (subst (λ xs. Grows (IsStepFrom gs xs) record { found = c.args.self.found; ahead = c.new.result } c.loop-x.level) c.deref-x-items.ensures.value c.loop-x.invariant.0.0)

pub returns-clause-covered : goal.returns-clause-covered
returns-clause-covered c =
    let gs = c.args.generators.now in
    subst (λ xs. CoversStepsFrom gs xs c.loop-x.level) c.deref-x-items.ensures.value
    (each_all (λ x. CoversSteps gs x c.loop-x.level) c.deref-x-items.result.now c.loop-x.x-index c.loop-x-test.false c.loop-x.invariant.0.1)
