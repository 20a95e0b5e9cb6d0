-- The greatest height so far.
use Rattle.fvn_combine_loose.proofs.Checked.{IsHighestSoFar}
use Rattle.fvn_combine_loose.proofs.checking.highest.Given as goal

abbrev pub invariant-loop-k : goal.invariant-loop-k
invariant-loop-k l = IsHighestSoFar l.state l.heights l.ks l.k-index l.high
