-- The operators so far.
use Rattle.std.proofs.Common.{◌≡◌, map, take, All}
use Rattle.fvn_combine_nodes.specs.States.{class_of}
use Rattle.fvn_combine_leaves.specs.Readings.{AreSums}
use Rattle.fvn_combine_reading.proofs.reading.all_sums.Given as goal

abbrev pub invariant-loop-f : goal.invariant-loop-f
invariant-loop-f l = record {
  sums : All (AreSums l.sig l.table (class_of l.state)) l.sums.items;
  operators : map (λ s. s.operator) l.sums.items ≡ take l.f-index l.operators;
}
