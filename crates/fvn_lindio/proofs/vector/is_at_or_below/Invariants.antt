-- What is left of both decides.
use Rattle.std.proofs.Common.{◌↔◌, drop}
use Rattle.fvn_lindio.specs.Vectors.{IsAtOrBelow}
use Rattle.fvn_lindio.proofs.vector.is_at_or_below.Given as goal

abbrev pub invariant-loop-i : goal.invariant-loop-i
invariant-loop-i l = IsAtOrBelow l.x l.y ↔ IsAtOrBelow (drop l.i l.x) (drop l.i l.y)
