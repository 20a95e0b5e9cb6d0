-- What the points so far make is in the list.
use Rattle.std.proofs.Common.{[], length, take}
use Rattle.std.specs.List.{AllPairs, Contains}
use Rattle.fvn_base.specs.Order.{IsBefore}
use Rattle.fvn_lindio.specs.inner.Generators.{vectors_in}
use Rattle.fvn_lindio.specs.inner.Least.{GrowsBy, IsOrderedOf}
use Rattle.fvn_lindio.specs.inner.Paired.{AnyOf, IsFrom}
use Rattle.fvn_lindio.specs.declared.level.Point.{Point}
use Rattle.fvn_lindio.proofs.paired.sums_of.Given as goal

abbrev pub invariant-loop-x : goal.invariant-loop-x
invariant-loop-x l =
    AllPairs IsBefore (vectors_in l.list.items)
    × ((p : Point) → Contains l.points p → IsOrderedOf (length p.parts.items) (vectors_in l.list.items))
    × GrowsBy (AnyOf (IsFrom l.points) (take l.x-index l.points)) [] (vectors_in l.list.items)
