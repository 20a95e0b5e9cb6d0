-- The wheels in front are as they were, and those passed have given their least choice.
use Rattle.std.proofs.Common.{◌≡◌, ℕ, ◌<◌, ◌≤◌, length, map, slice_index_or}
use Rattle.fvn_acunify.specs.Cursor.{Cursor}
use Rattle.fvn_acunify_product.specs.Wheels.{IsChoice, wheel_of}
use Rattle.fvn_acunify_product.specs.inner.Steps.{IsLast}
use Rattle.fvn_acunify_product.proofs.turning.move_last.Given as goal

abbrev pub invariant-loop-place : goal.invariant-loop-place
invariant-loop-place l = record {
  within : l.place ≤ length l.fn.wheels;
  sized : length l.wheels ≡ length l.fn.wheels;
  same : map wheel_of l.wheels ≡ map wheel_of l.fn.wheels;
  front : (k : ℕ) (c : Cursor) → k < l.place → slice_index_or l.wheels k c ≡ slice_index_or l.fn.wheels k c;
  numbers : l.numbers ≡ l.fn.numbers;
  last : (k : ℕ) → l.place ≤ k → k < length l.fn.wheels → IsLast IsChoice (map wheel_of l.fn.wheels) l.fn.numbers k;
}

abbrev pub decreases-loop-place : goal.decreases-loop-place
decreases-loop-place l = l.place
