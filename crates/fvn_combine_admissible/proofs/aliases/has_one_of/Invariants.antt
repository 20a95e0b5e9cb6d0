-- None of the columns so far.
use Rattle.std.proofs.Common.{ℕ, ◌<◌, slice_index}
use Rattle.fvn_combine_admissible.proofs.aliases.has_one_of.Given as goal

abbrev pub invariant-loop-c : goal.invariant-loop-c
invariant-loop-c l = (i : ℕ) → i < l.c-index → 0 < slice_index l.parts (slice_index l.columns i) → ⊥
