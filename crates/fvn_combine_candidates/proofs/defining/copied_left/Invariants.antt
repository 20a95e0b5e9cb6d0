-- The rows so far are some of those that are given.
use Rattle.std.proofs.Common.{All, Contains}
use Rattle.fvn_combine_candidates.proofs.defining.copied_left.Given as goal

abbrev pub invariant-loop-i : goal.invariant-loop-i
invariant-loop-i l = All (Contains l.rows) l.list.items
