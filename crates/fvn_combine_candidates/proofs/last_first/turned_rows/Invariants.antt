-- The rows so far.
use Rattle.std.proofs.Common.{◌≡◌, ◌++◌, take, reverse}
use Rattle.fvn_combine_candidates.proofs.last_first.turned_rows.Given as goal

abbrev pub invariant-loop-i : goal.invariant-loop-i
invariant-loop-i l = l.turned.items ≡ l.fn.first.items ++ take l.i (reverse l.rows)
