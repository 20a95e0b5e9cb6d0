-- One generator more, and all of them in the end.
use Rattle.std.proofs.Common.{◌∙◌, to_z, of_z, w64, FitsSigned, rules}
use Rattle.std.proofs.lemmas.Int.{to_z-of_z}
use Rattle.fvn_lindio.specs.inner.Levels.{IsCovered, IsAt}
use Rattle.fvn_lindio.proofs.LevelLemmas.{first_more, each_all, grown_found, grown_ahead}
use Rattle.fvn_lindio.proofs.level.Level.first.Goals as goal

pub loop-g-preserved : goal.loop-g-preserved
loop-g-preserved c =
    let fits : FitsSigned w64 c.g-item.result.value = search rules in (
      first_more c.args.generators.now c.g-item.result record { parts = c.in_ok-parts.parts; value = to_z w64 (of_z w64 c.g-item.result.value) } c.loop-g.g-index c.new-level.result c.loop-g.level c.admit.new.self c.loop-g-test.true c.g-item.is (c.in_ok-parts.ensures.ok ∙ c.as_slice.ensures) (to_z-of_z w64 c.g-item.result.value fits) c.loop-g.invariant.0 c.in_ok-admit.ensures.grows c.in_ok-admit.ensures.covered,
      c.in_ok-admit.ensures.once c.loop-g.invariant.1,
    )

pub returns-clause-found : goal.returns-clause-found
returns-clause-found c = grown_found (IsAt c.args.generators.now) c.new-level.result c.loop-g.level c.new-level.ensures.found c.loop-g.invariant.0.0

pub returns-clause-ahead : goal.returns-clause-ahead
returns-clause-ahead c = grown_ahead (IsAt c.args.generators.now) c.new-level.result c.loop-g.level c.new-level.ensures.ahead c.loop-g.invariant.0.0

pub returns-clause-covered : goal.returns-clause-covered
returns-clause-covered c = each_all (λ y. IsCovered c.loop-g.level y.parts.items) c.args.generators.now c.loop-g.g-index c.loop-g-test.false c.loop-g.invariant.0.1
