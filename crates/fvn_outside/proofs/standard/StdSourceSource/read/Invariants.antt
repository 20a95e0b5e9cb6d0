-- Interrupted reads took nothing, and none was counted.
use Rattle.fvn_outside.proofs.KeptBytes.{IsUntouched}
use Rattle.fvn_outside.proofs.standard.StdSourceSource.read.Given as goal

abbrev pub invariant-loop : goal.invariant-loop
invariant-loop g l = IsUntouched (g.R.Read.remaining l.initial.self.reader) (g.R.Read.remaining l.self.reader) l.initial.self.faults l.self.faults
