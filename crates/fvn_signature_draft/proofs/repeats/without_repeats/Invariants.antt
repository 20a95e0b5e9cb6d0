-- The invariant of the ranks, each once.
use Rattle.std.proofs.Common.{take}
use Rattle.fvn_signature.specs.FoundAlike.{FindAlike}
use Rattle.fvn_signature_draft.proofs.repeats.without_repeats.Given as goal

-- those so far give what the first of the ranks do
abbrev pub invariant-loop-rank : goal.invariant-loop-rank
invariant-loop-rank l = FindAlike l.all.items (take l.rank-index l.ranks)
