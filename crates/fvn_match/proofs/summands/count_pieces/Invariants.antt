-- what was counted so far, and what is left of the list
use Rattle.std.proofs.Common.{length}
use Rattle.fvn_match.specs.inner.Summands.{references}
use Rattle.fvn_match.proofs.Runs.{Counting}
use Rattle.fvn_match.proofs.summands.count_pieces.Given as goal

abbrev pub invariant-loop-rest : goal.invariant-loop-rest
invariant-loop-rest l = Counting l.ts (references l.pieces.items) l.left.items l.rest

abbrev pub decreases-loop-rest : goal.decreases-loop-rest
decreases-loop-rest l = length l.rest
