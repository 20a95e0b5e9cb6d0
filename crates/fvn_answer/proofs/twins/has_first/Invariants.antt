-- the places are not before k
use Rattle.std.proofs.Common.{◌≤◌}
use Rattle.fvn_answer.proofs.twins.has_first.Given as goal

abbrev pub invariant-loop-i : goal.invariant-loop-i
invariant-loop-i l = l.k ≤ l.i
