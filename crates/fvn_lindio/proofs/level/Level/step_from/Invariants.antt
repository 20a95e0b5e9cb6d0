-- The steps by the generators so far are covered, and no vector stands ahead twice.
use Rattle.std.proofs.Common.{take}
use Rattle.fvn_lindio.specs.inner.Levels.{Grows, IsOnce, IsStep, CoversSteps}
use Rattle.fvn_lindio.proofs.level.Level.step_from.Given as goal

abbrev pub invariant-loop-g : goal.invariant-loop-g
invariant-loop-g l =
    (Grows (IsStep l.generators l.x) l.initial.self l.self × CoversSteps (take l.g-index l.generators) l.x l.self) × (IsOnce l.initial.self → IsOnce l.self)
