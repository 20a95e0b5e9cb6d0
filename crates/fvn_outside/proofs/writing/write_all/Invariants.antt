-- The first `done` bytes are written; those that are left grow fewer.
use Rattle.std.proofs.Common.{length, ◌-◌}
use Rattle.fvn_outside.proofs.SinkLemmas.{IsWrittenTo}
use Rattle.fvn_outside.proofs.writing.write_all.Given as goal

abbrev pub invariant-loop-done : goal.invariant-loop-done
invariant-loop-done g l = IsWrittenTo (g.K.Sink.written l.initial.sink) (g.K.Sink.written l.sink) l.bytes l.done (g.K.Sink.faults l.initial.sink) (g.K.Sink.faults l.sink)

abbrev pub decreases-loop-done : goal.decreases-loop-done
decreases-loop-done g l = length l.bytes - l.done
