-- The wheels in front are as they were, and those passed show their greatest choice.
use Rattle.std.proofs.Common.{◌≡◌, ℕ, ◌<◌, ◌≤◌, length, map, slice_index, slice_index_or}
use Rattle.fvn_acunify.specs.Cursor.{Cursor}
use Rattle.fvn_acunify_product.specs.Wheels.{IsChoice, wheel_of}
use Rattle.fvn_acunify_product.specs.inner.Steps.{IsTop, Stand}
use Rattle.fvn_acunify_product.proofs.turning.restart.Given as goal

abbrev pub invariant-loop-place : goal.invariant-loop-place
invariant-loop-place l = record {
  from : l.from ≤ l.place;
  sized : length l.wheels ≡ length l.fn.wheels;
  numbered : length l.numbers ≡ length l.fn.numbers;
  same : map wheel_of l.wheels ≡ map wheel_of l.fn.wheels;
  front : (k : ℕ) (c : Cursor) → k < l.from → slice_index_or l.wheels k c ≡ slice_index_or l.fn.wheels k c;
  numbers : (k : ℕ) → k < l.from → slice_index l.numbers k ≡ slice_index l.fn.numbers k;
  stands : Stand l.wheels l.numbers l.from l.place;
  tops : (k : ℕ) → l.from ≤ k → k < l.place → IsTop IsChoice (map wheel_of l.fn.wheels) l.numbers k;
}
