-- The rows so far.
use Rattle.std.proofs.Common.{◌≡◌, take}
use Rattle.fvn_combine_admissible.proofs.theories.copied_rows.Given as goal

abbrev pub invariant-loop-row : goal.invariant-loop-row
invariant-loop-row l = l.all.items ≡ take l.row-index l.rows
