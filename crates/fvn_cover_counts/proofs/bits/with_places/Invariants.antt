-- the places that are left decide
use Rattle.std.proofs.Common.{◌≡◌, drop}
use Rattle.fvn_cover_counts.specs.inner.Bits.{with_places}
use Rattle.fvn_cover_counts.proofs.bits.with_places.Given as goal

abbrev pub invariant-loop-i : goal.invariant-loop-i
invariant-loop-i l = with_places l.f l.places l.initial.more ≡ with_places l.f (drop l.i-index l.places) l.more
