-- The steps from the vectors so far are covered, and no vector stands ahead twice.
use Rattle.std.proofs.Common.{take}
use Rattle.fvn_lindio.specs.inner.Levels.{Grows, IsOnce, IsStepFrom, CoversStepsFrom}
use Rattle.fvn_lindio.proofs.level.Level.next.Given as goal

abbrev pub invariant-loop-x : goal.invariant-loop-x
invariant-loop-x l =
    (Grows (IsStepFrom l.generators l.x-items) l.initial.level l.level × CoversStepsFrom l.generators (take l.x-index l.x-items) l.level) × IsOnce l.level
