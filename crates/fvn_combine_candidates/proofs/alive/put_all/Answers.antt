-- One more solution.
use Rattle.std.proofs.Common.{◌≡◌, length, sym, subst, arith}
use Rattle.std.specs.List.{All, Contains}
use Rattle.fvn_lindio.specs.Systems.{vectors_of}
use Rattle.fvn_combine_candidates.specs.inner.Placed.{IsOrderedOf}
use Rattle.fvn_combine_candidates.proofs.Inserted.{put_none, put_more, put_every, size_at}
use Rattle.fvn_combine_candidates.proofs.alive.put_all.Goals as goal
use Rattle.fvn_combine_candidates.proofs.alive.put_all.Goals.{After-solution-item}

long : (c : After-solution-item) → length c.solution-item.result.parts ≡ c.args.columns
long c = size_at c.args.columns c.args.more.now c.loop-solution.solution-index c.solution-item.result c.loop-solution-test.true c.solution-item.is c.requires.sized

pub loop-solution-init : goal.loop-solution-init
loop-solution-init c = (c.requires.ordered, put_none c.args.list.now.items c.args.more.now)

pub put_in-requires : goal.put_in-requires
put_in-requires c = subst (λ n. IsOrderedOf n (vectors_of c.loop-solution.list.items)) (sym (long (goal.at.put_in-requires c).After-solution-item)) c.loop-solution.invariant.0

pub loop-solution-preserved : goal.loop-solution-preserved
loop-solution-preserved c = (
  subst (λ n. IsOrderedOf n (vectors_of c.put_in.new.list.items)) (long (goal.at.loop-solution-preserved c).After-solution-item) c.in_ok-put_in.ensures.ordered,
  put_more c.args.more.now c.loop-solution.solution-index c.solution-item.result c.args.list.now.items c.loop-solution.list.items c.put_in.new.list.items c.loop-solution-test.true c.solution-item.is c.loop-solution.invariant.1 c.in_ok-put_in.ensures.exact,
)

pub returns-clause-ordered : goal.returns-clause-ordered
returns-clause-ordered c = c.loop-solution.invariant.0

pub returns-clause-exact : goal.returns-clause-exact
returns-clause-exact c = put_every c.args.more.now c.loop-solution.solution-index c.args.list.now.items c.loop-solution.list.items c.loop-solution-test.false c.loop-solution.invariant.1
