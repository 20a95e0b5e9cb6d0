-- The columns so far.
use Rattle.std.proofs.Common.{◌≡◌, ◌≢◌, ℕ, ◌<◌, true, false, length, slice_index_or}
use Rattle.std.specs.Prelude.{pos, ◌↔◌, Any}
use Rattle.fvn_lindio.specs.Systems.{rows_of}
use Rattle.fvn_combine_reading.proofs.used.used_of.Given as goal

abbrev pub invariant-loop-j : goal.invariant-loop-j
invariant-loop-j l = record {
  marked : length l.used.items ≡ l.j;
  exact : (j : ℕ) → j < l.j → (slice_index_or l.used.items j false ≡ true) ↔ Any (λ row. slice_index_or row j (pos 0) ≢ pos 0) (rows_of l.system);
}
