-- The parts so far are added, and the other sums are as they were.
use Rattle.std.proofs.Common.{◌≡◌, ℕ, ◌+◌, ◌<◌, ◌≤◌, slice_index}
use Rattle.fvn_acunify.proofs.prefix.add.Given as goal

abbrev pub invariant-loop-j : goal.invariant-loop-j
invariant-loop-j l = record {
  added : (k : ℕ) → k < l.j → slice_index l.sums k ≡ slice_index l.initial.sums k + slice_index l.parts k;
  rest : (k : ℕ) → l.j ≤ k → slice_index l.sums k ≡ slice_index l.initial.sums k;
}
