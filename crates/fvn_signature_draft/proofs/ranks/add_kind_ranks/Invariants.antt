-- The invariant of the ranks on kinds.
use Rattle.std.proofs.Common.{◌≡◌, ◌++◌, map, take}
use Rattle.fvn_forms.specs.Ranks.{kind_rank}
use Rattle.fvn_signature_draft.proofs.ranks.add_kind_ranks.Given as goal

-- the ranks so far
abbrev pub invariant-loop-rank : goal.invariant-loop-rank
invariant-loop-rank l = l.all.items ≡ l.initial.all.items ++ map (kind_rank l.declarations) (take l.rank-index l.ranks)
