-- One value more.
use Rattle.std.proofs.Common.{subst}
use Rattle.std.proofs.lemmas.List.{take_all}
use Rattle.std.proofs.lemmas.List.Elements.{All-more, Contains-get_or}
use Rattle.fvn_narrow_children.specs.Values.{IsSmallAt, AreSmallValues}
use Rattle.fvn_narrow_children.proofs.ValueFacts.{large_listed}
use Rattle.fvn_narrow_children.proofs.values.large_value.Goals as goal

pub loop-x-preserved : goal.loop-x-preserved
loop-x-preserved c =
    All-more (IsSmallAt c.args.s.now c.args.size) c.args.vars.now c.loop-x.x-index _ c.loop-x-test.true c.loop-x.invariant (rw c.in_default.is at c.in_ok-found.ensures)

pub returns-in-Some : goal.returns-in-Some
returns-in-Some c =
    large_listed c.args.vars.now c.args.s.now c.args.size _ c.in-Some.t (Contains-get_or c.args.vars.now c.loop-x.x-index _ c.loop-x-test.true) (rw c.in-Some.is at c.in_ok-found.ensures)

pub returns : goal.returns
returns c = subst (λ vars. AreSmallValues vars c.args.s.now c.args.size) (take_all c.loop-x.x-index c.args.vars.now c.loop-x-test.false) c.loop-x.invariant
