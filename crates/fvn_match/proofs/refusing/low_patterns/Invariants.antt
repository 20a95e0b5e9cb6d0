-- The patterns that are left decide.
use Rattle.std.proofs.Common.{◌≡◌, ◌+◌, ◌≤◌, drop}
use Rattle.fvn_match.specs.inner.Goals.{patterns_of}
use Rattle.fvn_match.specs.inner.Refusing.{low_in}
use Rattle.fvn_match.proofs.refusing.low_patterns.Given as goal

abbrev pub invariant-loop-i : goal.invariant-loop-i
invariant-loop-i l = (l.n + low_in l.sig l.s (drop l.i (patterns_of l.goal)) ≡ low_in l.sig l.s (patterns_of l.goal)) × (l.n ≤ l.i)
