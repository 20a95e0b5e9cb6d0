-- The invariant of ranks that are appended.
use Rattle.std.proofs.Common.{◌≡◌, ◌++◌}
use Rattle.fvn_signature_draft.proofs.ranks.appended.Given as goal

-- the ranks so far
abbrev pub invariant-loop-rank : goal.invariant-loop-rank
invariant-loop-rank l = l.all.items ≡ l.initial.all.items ++ l.yielded
