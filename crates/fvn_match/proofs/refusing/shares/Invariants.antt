-- The numbers that are left decide.
use Rattle.std.proofs.Common.{◌≡◌, ◌+◌, drop}
use Rattle.std.specs.Prelude.{sum}
use Rattle.fvn_match.specs.inner.Choices.{quotients}
use Rattle.fvn_match.proofs.refusing.shares.Given as goal

abbrev pub invariant-loop-i : goal.invariant-loop-i
invariant-loop-i l = l.n + sum (quotients l.k (drop l.i l.ns)) ≡ sum (quotients l.k l.ns)
