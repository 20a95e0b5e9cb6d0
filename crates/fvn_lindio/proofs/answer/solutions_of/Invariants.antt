-- The vectors so far.
use Rattle.std.proofs.Common.{◌≡◌, take}
use Rattle.fvn_lindio.specs.Systems.{vectors_of}
use Rattle.fvn_lindio.specs.inner.Generators.{vectors_in}
use Rattle.fvn_lindio.proofs.answer.solutions_of.Given as goal

abbrev pub invariant-loop-v : goal.invariant-loop-v
invariant-loop-v l = vectors_of l.solutions.items ≡ vectors_in (take l.v-index l.list)
