-- What is noted is that of the bindings from a place on.
use Rattle.std.proofs.Common.{◌≡◌, ◌≤◌, length, drop}
use Rattle.fvn_combine_unfolding.specs.inner.Noted.{noted_sizes}
use Rattle.fvn_combine_unfolding.proofs.sizes.sizes_of.Given as goal

abbrev pub decreases-loop-i : goal.decreases-loop-i
decreases-loop-i l = l.i

abbrev pub invariant-loop-i : goal.invariant-loop-i
invariant-loop-i l = record {
  within : l.i ≤ length l.bindings;
  noted : l.sizes.items ≡ noted_sizes (drop l.i l.bindings);
}
