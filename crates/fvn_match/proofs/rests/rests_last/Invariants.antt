-- what is behind, in another order
use Rattle.std.proofs.Common.{◌≤◌, length, drop}
use Rattle.std.specs.Vec.{vec_len}
use Rattle.fvn_forms.specs.InOrder.{SameCounts}
use Rattle.fvn_match.specs.inner.Summands.{references}
use Rattle.fvn_match.proofs.rests.rests_last.Given as goal

abbrev pub invariant-loop-i : goal.invariant-loop-i
invariant-loop-i l = record {
  within : l.i ≤ length l.ts;
  room : l.first ≤ vec_len l.all;
  behind : SameCounts (references l.all.items) (drop l.i l.ts);
}

abbrev pub decreases-loop-i : goal.decreases-loop-i
decreases-loop-i l = l.i
