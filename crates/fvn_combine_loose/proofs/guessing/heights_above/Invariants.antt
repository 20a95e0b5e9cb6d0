-- As many as nodes.
use Rattle.std.proofs.Common.{◌≡◌, length}
use Rattle.fvn_combine_loose.proofs.guessing.heights_above.Given as goal

abbrev pub invariant-loop-turn : goal.invariant-loop-turn
invariant-loop-turn l = length l.heights.items ≡ length l.table.nodes
