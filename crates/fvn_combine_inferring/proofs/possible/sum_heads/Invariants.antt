-- The node is added last.
use Rattle.std.proofs.Common.{◌<◌, length}
use Rattle.fvn_combine_inferring.specs.inner.Bounds.{IsAddedLast}
use Rattle.fvn_combine_inferring.proofs.possible.sum_heads.Given as goal

abbrev pub invariant-loop-step : goal.invariant-loop-step
invariant-loop-step l = record {
  within : l.last < length l.table.nodes;
  added : IsAddedLast l.sig l.table l.state l.known.sorted l.f l.i l.last;
}
