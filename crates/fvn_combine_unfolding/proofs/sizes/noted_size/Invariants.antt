-- What is left of the notes decides.
use Rattle.std.proofs.Common.{◌≡◌, drop}
use Rattle.fvn_combine_unfolding.specs.inner.Noted.{noted_size}
use Rattle.fvn_combine_unfolding.proofs.sizes.noted_size.Given as goal

abbrev pub invariant-loop-y : goal.invariant-loop-y
invariant-loop-y l = noted_size l.sizes l.x ≡ noted_size (drop l.y-index l.sizes) l.x
