-- The numbers are as they were, and those passed are the least.
use Rattle.std.proofs.Common.{◌≡◌, ℕ, ◌<◌, ◌≤◌, length}
use Rattle.fvn_acunify_product.specs.Tags.{IsOption}
use Rattle.fvn_acunify_product.specs.inner.Steps.{IsLast}
use Rattle.fvn_acunify_product.proofs.tags.move_last.Given as goal

abbrev pub invariant-loop-place : goal.invariant-loop-place
invariant-loop-place l = record {
  within : l.place ≤ length l.fn.numbers;
  numbers : l.numbers ≡ l.fn.numbers;
  last : (k : ℕ) → l.place ≤ k → k < length l.counts → IsLast IsOption l.counts l.fn.numbers k;
}

abbrev pub decreases-loop-place : goal.decreases-loop-place
decreases-loop-place l = l.place
