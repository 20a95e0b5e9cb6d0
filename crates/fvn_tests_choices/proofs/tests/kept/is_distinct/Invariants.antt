-- The numbers so far are different.
use Rattle.std.proofs.Common.{◌≢◌, ℕ, ◌<◌, slice_index_or}
use Rattle.fvn_tests_choices.proofs.tests.kept.is_distinct.Given as goal

abbrev pub invariant-loop-k : goal.invariant-loop-k
invariant-loop-k l = (i j : ℕ) (d : ℕ) → i < j → j < l.k → slice_index_or l.list i d ≢ slice_index_or l.list j d
