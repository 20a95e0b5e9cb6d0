-- the others that are left decide
use Rattle.std.proofs.Common.{◌≡◌, drop}
use Rattle.fvn_cover_counts.specs.inner.Comparing.{after_all}
use Rattle.fvn_cover_counts.proofs.comparing.is_part.Given as goal

abbrev pub invariant-loop-other : goal.invariant-loop-other
invariant-loop-other l = after_all l.fn.places l.others ≡ after_all l.left (drop l.other-index l.others)
