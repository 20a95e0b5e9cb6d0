-- the marks of all so far
use Rattle.std.proofs.Common.{take}
use Rattle.fvn_cover.specs.inner.Sieved.{HaveMarksIn}
use Rattle.fvn_cover.proofs.sieve.marks_of.Given as goal

abbrev pub invariant-loop-k : goal.invariant-loop-k
invariant-loop-k l = HaveMarksIn l.all (take l.k-index l.list)
