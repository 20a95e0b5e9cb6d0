-- The patterns so far take one piece each at most.
use Rattle.std.proofs.Common.{◌≤◌, length, take}
use Rattle.fvn_match.specs.inner.Candidates.{Values, IsCandidate}
use Rattle.fvn_match.specs.inner.Goals.{patterns_of}
use Rattle.fvn_match.proofs.SumSteps.{summands_of}
use Rattle.fvn_match.proofs.refusing.is_crowded.Given as goal

abbrev pub invariant-loop-i : goal.invariant-loop-i
invariant-loop-i l = (c : Values) → IsCandidate l.sig c → length (summands_of l.sig l.goal.op c (take l.i (patterns_of l.goal))) ≤ length (take l.i (patterns_of l.goal))
