-- What is left are some of all.
use Rattle.std.proofs.Common.{◌≤◌, ◌-◌, length}
use Rattle.fvn_vunify.proofs.Apart.{AreLeft}
use Rattle.fvn_vunify.proofs.meeting.some_never_meet.Given as goal

abbrev pub invariant-loop-i : goal.invariant-loop-i
invariant-loop-i l = record {
  within : l.i ≤ length l.terms;
  left : AreLeft l.terms l.i;
}

abbrev pub decreases-loop-i : goal.decreases-loop-i
decreases-loop-i l = length l.terms - l.i
