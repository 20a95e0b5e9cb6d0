-- The sums with the points so far are in the list.
use Rattle.std.proofs.Common.{length, take}
use Rattle.fvn_lindio.specs.inner.Generators.{vectors_in}
use Rattle.fvn_lindio.specs.inner.Least.{GrowsBy, IsOrderedOf}
use Rattle.fvn_lindio.specs.inner.Paired.{AnyOf, IsSum}
use Rattle.fvn_lindio.proofs.paired.add_sums.Given as goal

abbrev pub invariant-loop-u : goal.invariant-loop-u
invariant-loop-u l =
    IsOrderedOf (length l.x.parts.items) (vectors_in l.list.items)
    × GrowsBy (AnyOf (IsSum l.x) (take l.u-index l.points)) (vectors_in l.initial.list.items) (vectors_in l.list.items)
