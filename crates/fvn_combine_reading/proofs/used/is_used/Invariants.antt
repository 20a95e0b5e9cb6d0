-- No row so far uses the column.
use Rattle.std.proofs.Common.{◌≡◌, ◌≢◌, ℕ, ◌<◌, slice_index_or}
use Rattle.std.specs.Prelude.{ℤ, pos, List}
use Rattle.fvn_lindio.specs.Systems.{coefficients_of}
use Rattle.fvn_combine_reading.proofs.used.is_used.Given as goal

abbrev pub invariant-loop-row : goal.invariant-loop-row
invariant-loop-row l = (k : ℕ) (row : List ℤ) → k < l.row-index → slice_index_or (coefficients_of l.rows) k row ≡ row → slice_index_or row l.j (pos 0) ≢ pos 0 → ⊥
