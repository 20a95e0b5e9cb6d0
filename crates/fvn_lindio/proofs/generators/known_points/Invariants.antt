-- The vectors so far.
use Rattle.std.proofs.Common.{take}
use Rattle.std.specs.List.{Contains}
use Rattle.fvn_lindio.specs.inner.Generators.{Values, vectors_in}
use Rattle.fvn_lindio.proofs.generators.known_points.Given as goal

abbrev pub invariant-loop-v : goal.invariant-loop-v
invariant-loop-v l = Values l.row (Contains (vectors_in (take l.v-index l.known))) l.points.items
