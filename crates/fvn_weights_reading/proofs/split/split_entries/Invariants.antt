-- The entries so far are a front of the row, and what is left decides.
use Rattle.std.proofs.Common.{length}
use Rattle.fvn_weights_reading.specs.inner.Split.{IsFront, Decides}
use Rattle.fvn_weights_reading.proofs.split.split_entries.Given as goal

-- the entries so far, and what is left
abbrev pub invariant-loop-more : goal.invariant-loop-more
invariant-loop-more l = IsFront l.row l.list.items l.rest × Decides l.row l.rest

-- the pieces that are left become fewer
abbrev pub decreases-loop-more : goal.decreases-loop-more
decreases-loop-more l = length l.rest
