-- The terms that are left decide.
use Rattle.std.proofs.Common.{◌≡◌, ◌+◌, ◌≤◌, drop}
use Rattle.fvn_match.specs.inner.Heads.{headed_in}
use Rattle.fvn_match.proofs.heads.count_headed.Given as goal

abbrev pub invariant-loop-t : goal.invariant-loop-t
invariant-loop-t l = (headed_in l.f l.fn.ts ≡ l.n + headed_in l.f (drop l.t-index l.ts)) × (l.n ≤ l.t-index)
