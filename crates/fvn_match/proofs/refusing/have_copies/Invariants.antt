-- The patterns so far that stand there so often, and the rest.
use Rattle.std.proofs.Common.{length}
use Rattle.fvn_match.specs.inner.Summands.{references}
use Rattle.fvn_match.proofs.Copies.{Copied}
use Rattle.fvn_match.proofs.refusing.have_copies.Given as goal

abbrev pub invariant-loop-rest : goal.invariant-loop-rest
invariant-loop-rest l = Copied l.k l.many (references l.patterns) l.left (references l.rest)

abbrev pub decreases-loop-rest : goal.decreases-loop-rest
decreases-loop-rest l = length l.rest
