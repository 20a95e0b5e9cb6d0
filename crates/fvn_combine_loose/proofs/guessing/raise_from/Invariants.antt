-- As many as before.
use Rattle.std.proofs.Common.{◌≡◌, length}
use Rattle.fvn_combine_loose.proofs.guessing.raise_from.Given as goal

abbrev pub invariant-loop-i : goal.invariant-loop-i
invariant-loop-i l = length l.heights.items ≡ length l.fn.heights.items
