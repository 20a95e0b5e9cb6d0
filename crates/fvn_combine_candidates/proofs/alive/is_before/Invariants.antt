-- What is left of both decides.
use Rattle.std.proofs.Common.{◌↔◌, drop}
use Rattle.fvn_base.specs.Order.{IsBefore}
use Rattle.fvn_combine_candidates.proofs.alive.is_before.Given as goal

abbrev pub invariant-loop-i : goal.invariant-loop-i
invariant-loop-i l = IsBefore l.x l.y ↔ IsBefore (drop l.i l.x) (drop l.i l.y)
