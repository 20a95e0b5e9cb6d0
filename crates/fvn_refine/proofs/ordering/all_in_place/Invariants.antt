-- The rows so far in their places.
use Rattle.std.proofs.Common.{◌≡◌}
use Rattle.fvn_refine.specs.inner.Ordering.{all_in_place}
use Rattle.fvn_refine.proofs.ordering.all_in_place.Given as goal

abbrev pub invariant-loop-row : goal.invariant-loop-row
invariant-loop-row l = l.all.items ≡ all_in_place l.yielded
