-- One point more, and all of them in the end.
use Rattle.std.proofs.Common.{sym, subst}
use Rattle.fvn_lindio.specs.inner.Generators.{vectors_in}
use Rattle.fvn_lindio.specs.inner.Levels.{CanAdd}
use Rattle.fvn_lindio.specs.inner.Paired.{IsSum}
use Rattle.fvn_lindio.proofs.PairLemmas.{any_none, any_more, any_all}
use Rattle.fvn_lindio.proofs.paired.add_sums.Goals as goal

pub loop-u-init : goal.loop-u-init
loop-u-init c = (c.requires.ordered, any_none (IsSum c.args.x.now) c.args.points.now (vectors_in c.args.list.now.items))

pub add_sum-requires-clause-can_add : goal.add_sum-requires-clause-can_add
add_sum-requires-clause-can_add c = subst (CanAdd c.args.x.now) (sym c.u-item.is) (c.requires.can_add c.loop-u.u-index c.u-item.result c.loop-u-test.true)

pub add_sum-requires-clause-ordered : goal.add_sum-requires-clause-ordered
add_sum-requires-clause-ordered c = c.loop-u.invariant.0

pub loop-u-preserved : goal.loop-u-preserved
loop-u-preserved c = (
  c.in_ok-add_sum.ensures.ordered,
  any_more (IsSum c.args.x.now) c.args.points.now c.loop-u.u-index c.u-item.result (vectors_in c.args.list.now.items) (vectors_in c.loop-u.list.items) (vectors_in c.add_sum.new.list.items) c.loop-u-test.true c.u-item.is c.loop-u.invariant.1 c.in_ok-add_sum.ensures.exact,
)

pub returns-clause-ordered : goal.returns-clause-ordered
returns-clause-ordered c = c.loop-u.invariant.0

pub returns-clause-exact : goal.returns-clause-exact
returns-clause-exact c =
    any_all (IsSum c.args.x.now) c.args.points.now c.loop-u.u-index (vectors_in c.args.list.now.items) (vectors_in c.loop-u.list.items) c.loop-u-test.false c.loop-u.invariant.1
