-- The numbers in front are as they were, and those passed are 0.
use Rattle.std.proofs.Common.{◌≡◌, ℕ, ◌<◌, ◌≤◌, length, slice_index}
use Rattle.fvn_acunify_product.proofs.tags.lower.Given as goal

abbrev pub invariant-loop-place : goal.invariant-loop-place
invariant-loop-place l = record {
  from : l.from ≤ l.place;
  numbered : length l.numbers ≡ length l.fn.numbers;
  front : (k : ℕ) → k < l.from → slice_index l.numbers k ≡ slice_index l.fn.numbers k;
  least : (k : ℕ) → l.from ≤ k → k < l.place → slice_index l.numbers k ≡ 0;
}
