-- The invariant of the swapped ranks.
use Rattle.std.proofs.Common.{◌≡◌, take}
use Rattle.fvn_forms.specs.Ranks.{swapped_ranks}
use Rattle.fvn_signature_draft.proofs.ranks.swapped.Given as goal

-- the ranks so far
abbrev pub invariant-loop-rank : goal.invariant-loop-rank
invariant-loop-rank l = l.all.items ≡ swapped_ranks (take l.rank-index l.ranks)
