-- The pairs that are left decide.
use Rattle.std.proofs.Common.{◌≡◌, drop}
use Rattle.fvn_combine_inferring.specs.inner.Bounds.{is_kept}
use Rattle.fvn_combine_inferring.proofs.bounds.keeps_apart.Given as goal

abbrev pub invariant-loop-k : goal.invariant-loop-k
invariant-loop-k l = is_kept l.names l.a l.b l.fn.apart ≡ is_kept l.names l.a l.b (drop l.k-index l.apart)
