-- Interrupted writes added nothing, and none was counted.
use Rattle.fvn_outside.proofs.KeptBytes.{IsUntouched}
use Rattle.fvn_outside.proofs.standard.StdSinkSink.write.Given as goal

abbrev pub invariant-loop : goal.invariant-loop
invariant-loop g l = IsUntouched (g.W.Write.contents l.initial.self.writer) (g.W.Write.contents l.self.writer) l.initial.self.faults l.self.faults
