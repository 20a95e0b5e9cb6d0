-- The pairs before this one are read.
use Rattle.fvn_problems.proofs.Pairs.{ReadSoFar}
use Rattle.fvn_problems.proofs.problem.read_pairs.Given as goal

-- the pairs before this one are read
abbrev pub invariant-loop-halves : goal.invariant-loop-halves
invariant-loop-halves l = ReadSoFar l.scope l.list l.halves-index l.pairs.items l.seen
