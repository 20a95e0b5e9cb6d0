-- The invariant of the copies of ranks.
use Rattle.std.proofs.Common.{◌≡◌, take}
use Rattle.fvn_signature_draft.proofs.ranks.copies.Given as goal

-- the ranks so far
abbrev pub invariant-loop-rank : goal.invariant-loop-rank
invariant-loop-rank l = l.all.items ≡ take l.rank-index l.ranks
