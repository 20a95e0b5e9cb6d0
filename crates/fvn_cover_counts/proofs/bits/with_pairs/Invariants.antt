-- the numbers so far
use Rattle.std.proofs.Common.{◌≡◌}
use Rattle.fvn_cover_counts.specs.inner.Bits.{with_pairs}
use Rattle.fvn_cover_counts.proofs.bits.with_pairs.Given as goal

abbrev pub invariant-loop-j : goal.invariant-loop-j
invariant-loop-j l = l.more ≡ with_pairs l.i l.places l.j l.initial.more
