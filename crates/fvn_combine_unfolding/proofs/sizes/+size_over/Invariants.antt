-- The symbols so far.
use Rattle.std.proofs.Common.{◌≡◌, ◌+◌, take}
use Rattle.fvn_flat.specs.Weight.{places}
use Rattle.fvn_combine_unfolding.specs.inner.Noted.{capped, noted_size}
use Rattle.fvn_combine_unfolding.proofs.Measuring.{size_of_all}
use Rattle.fvn_combine_unfolding.proofs.sizes.+size_over.Given as goal

abbrev pub decreases-size_over : goal.decreases-size_over
decreases-size_over l = places l.t.now

abbrev pub invariant-loop-u : goal.invariant-loop-u
invariant-loop-u l = l.count ≡ capped (l.initial.count + size_of_all (noted_size l.sizes) (take l.u-index l.u-items))
