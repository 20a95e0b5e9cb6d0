-- The classes so far are kept.
use Rattle.std.proofs.Common.{ℕ, ◌<◌}
use Rattle.fvn_combine_questions.specs.inner.Labels.{IsRoom, HasRoomIn, IsRoomFor, IsKept}
use Rattle.fvn_combine_questions.proofs.labels.without_room.Given as goal

abbrev pub invariant-loop-k : goal.invariant-loop-k
invariant-loop-k l = (k : ℕ) → k < l.k
    → IsKept (IsRoomFor l.sig (HasRoomIn l.reading l.bases (IsRoom l.table l.state l.reading l.labels))) l.heads l.labels k
