-- the places that are left decide
use Rattle.std.proofs.Common.{◌≡◌, drop}
use Rattle.fvn_cover_counts.specs.inner.Bits.{are_among}
use Rattle.fvn_cover_counts.proofs.bits.are_among.Given as goal

abbrev pub invariant-loop-p : goal.invariant-loop-p
invariant-loop-p l = are_among l.i l.j l.places ≡ are_among l.i l.j (drop l.p-index l.places)
