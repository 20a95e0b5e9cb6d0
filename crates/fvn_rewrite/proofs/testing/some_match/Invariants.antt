-- None of the rules from this place on matches.
use Rattle.std.proofs.Common.{◌≤◌, length, drop}
use Rattle.fvn_rewrite.specs.inner.Trying.{NoneMatches}
use Rattle.fvn_rewrite.proofs.testing.some_match.Given as goal

abbrev pub decreases-loop-i : goal.decreases-loop-i
decreases-loop-i l = l.i

abbrev pub invariant-loop-i : goal.invariant-loop-i
invariant-loop-i l = record {
  within : l.i ≤ length l.rules;
  behind : NoneMatches l.sig l.t (drop l.i l.rules);
}
