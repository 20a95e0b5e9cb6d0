-- The generators so far are covered, and no vector stands ahead twice.
use Rattle.std.proofs.Common.{take}
use Rattle.std.specs.List.{Contains}
use Rattle.fvn_lindio.specs.inner.Levels.{Grows, IsAt, IsCovered, IsOnce}
use Rattle.fvn_lindio.specs.declared.level.Point.{Point}
use Rattle.fvn_lindio.proofs.level.Level.first.Given as goal

abbrev pub invariant-loop-g : goal.invariant-loop-g
invariant-loop-g l =
    (Grows (IsAt l.generators) l.initial.level l.level × ((g : Point) → Contains (take l.g-index l.generators) g → IsCovered l.level g.parts.items)) × IsOnce l.level
