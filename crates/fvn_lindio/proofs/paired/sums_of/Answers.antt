-- One point more, and all of them in the end.
use Rattle.std.proofs.Common.{[], length, ap, sym, subst}
use Rattle.std.specs.List.{All, AllPairs}
use Rattle.fvn_base.specs.Order.{IsBefore}
use Rattle.fvn_lindio.specs.inner.Generators.{vectors_in}
use Rattle.fvn_lindio.specs.inner.Levels.{CanAdd}
use Rattle.fvn_lindio.specs.inner.Least.{GrowsBy, IsOrderedOf}
use Rattle.fvn_lindio.specs.inner.Paired.{AnyOf, IsFrom}
use Rattle.fvn_lindio.proofs.LevelLemmas.{this_one}
use Rattle.fvn_lindio.proofs.PairLemmas.{any_none, any_more, all_from, empty_ordered}
use Rattle.fvn_lindio.proofs.paired.sums_of.Goals as goal

pub loop-x-init : goal.loop-x-init
loop-x-init c =
    let empty = ap vectors_in (sym c.new-list.ensures.items) in (
      subst (AllPairs IsBefore) empty (empty_ordered 0).ordered,
      λ p m. subst (IsOrderedOf (length p.parts.items)) empty (empty_ordered (length p.parts.items)),
      subst (GrowsBy (AnyOf (IsFrom c.args.points.now) []) []) empty (any_none (IsFrom c.args.points.now) c.args.points.now []),
    )

pub add_from-requires-clause-can_add : goal.add_from-requires-clause-can_add
add_from-requires-clause-can_add c =
    subst (λ x. All (CanAdd x) c.args.points.now) (sym c.x-item.is) (c.requires.can_add c.loop-x.x-index c.x-item.result c.loop-x-test.true)

pub add_from-requires-clause-ordered : goal.add_from-requires-clause-ordered
add_from-requires-clause-ordered c = c.loop-x.invariant.1 c.x-item.result (this_one c.args.points.now c.loop-x.x-index c.x-item.result c.loop-x-test.true c.x-item.is)

pub loop-x-preserved : goal.loop-x-preserved
loop-x-preserved c =
    let points = c.args.points.now in
    let x = c.x-item.result in
    let here = this_one points c.loop-x.x-index x c.loop-x-test.true c.x-item.is in (
      c.in_ok-add_from.ensures.ordered.ordered,
      λ p m. subst (λ n. IsOrderedOf n (vectors_in c.add_from.new.list.items)) (c.requires.uniform x p here m) c.in_ok-add_from.ensures.ordered,
      any_more (IsFrom points) points c.loop-x.x-index x [] (vectors_in c.loop-x.list.items) (vectors_in c.add_from.new.list.items) c.loop-x-test.true c.x-item.is c.loop-x.invariant.2 c.in_ok-add_from.ensures.exact,
    )

pub returns-clause-ordered : goal.returns-clause-ordered
returns-clause-ordered c = c.loop-x.invariant.0

pub returns-clause-exact : goal.returns-clause-exact
returns-clause-exact c = all_from c.args.points.now c.loop-x.x-index (vectors_in c.loop-x.list.items) c.loop-x-test.false c.loop-x.invariant.2
