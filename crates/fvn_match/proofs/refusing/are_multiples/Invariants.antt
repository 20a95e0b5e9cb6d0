-- The patterns that are left decide.
use Rattle.std.proofs.Common.{length}
use Rattle.fvn_match.specs.inner.Summands.{references}
use Rattle.fvn_match.specs.inner.Refusing.{AreMultiples}
use Rattle.fvn_match.proofs.refusing.are_multiples.Given as goal

abbrev pub invariant-loop-rest : goal.invariant-loop-rest
invariant-loop-rest l = AreMultiples l.k (references l.rest) → AreMultiples l.k (references l.patterns)

abbrev pub decreases-loop-rest : goal.decreases-loop-rest
decreases-loop-rest l = length l.rest
