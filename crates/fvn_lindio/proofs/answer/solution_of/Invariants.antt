-- The components so far.
use Rattle.std.proofs.Common.{◌≡◌, take}
use Rattle.fvn_lindio.proofs.answer.solution_of.Given as goal

abbrev pub invariant-loop-a : goal.invariant-loop-a
invariant-loop-a l = l.narrow.items ≡ take l.a-index l.parts
