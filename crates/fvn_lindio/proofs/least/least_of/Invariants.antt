-- The least of the points so far, in order.
use Rattle.std.specs.List.{AllPairs}
use Rattle.fvn_base.specs.Order.{IsBefore}
use Rattle.fvn_lindio.specs.inner.Generators.{vectors_in}
use Rattle.fvn_lindio.proofs.LeastLemmas.{Kept}
use Rattle.fvn_lindio.proofs.least.least_of.Given as goal

abbrev pub invariant-loop-p : goal.invariant-loop-p
invariant-loop-p l = AllPairs IsBefore (vectors_in l.list.items) × Kept l.points l.p-index l.list.items
