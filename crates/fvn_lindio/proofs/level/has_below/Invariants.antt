-- None so far is at or below the vector.
use Rattle.std.proofs.Common.{take}
use Rattle.std.specs.List.{Contains}
use Rattle.fvn_lindio.specs.Vectors.{IsAtOrBelow}
use Rattle.fvn_lindio.specs.declared.level.Point.{Point}
use Rattle.fvn_lindio.proofs.level.has_below.Given as goal

abbrev pub invariant-loop-p : goal.invariant-loop-p
invariant-loop-p l = (p : Point) → Contains (take l.p-index l.points) p → IsAtOrBelow p.parts.items l.parts → ⊥
