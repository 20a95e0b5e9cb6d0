-- The ranks so far keep the sort.
use Rattle.fvn_narrow.proofs.Keeping.{FirstKeep}
use Rattle.fvn_narrow.proofs.pairing.summands_keep.Given as goal

abbrev pub invariant-loop-i : goal.invariant-loop-i
invariant-loop-i l = FirstKeep l.sig l.f l.s l.i
