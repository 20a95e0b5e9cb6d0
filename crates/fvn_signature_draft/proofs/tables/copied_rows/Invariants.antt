-- The invariant of the copies of rows.
use Rattle.std.proofs.Common.{◌≡◌, take}
use Rattle.fvn_signature_draft.proofs.tables.copied_rows.Given as goal

-- the rows so far
abbrev pub invariant-loop-row : goal.invariant-loop-row
invariant-loop-row l = l.all.items ≡ take l.row-index l.rows
