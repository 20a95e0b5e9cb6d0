-- The invariant of the search for a rank that is too long.
use Rattle.std.proofs.Common.{ℕ, ◌<◌, length, get_or}
use Rattle.fvn_signature_draft.specs.declared.collected.Declaration.{Declaration}
use Rattle.fvn_sorts.proofs.conditions.sizes.is_too_large.Given as goal

-- no rank so far is too long
abbrev pub invariant-loop-declaration : goal.invariant-loop-declaration
invariant-loop-declaration l = (k : ℕ) (d : Declaration) → k < l.declaration-index → 8 < length (get_or l.declaration-items k d).rank.args → ⊥
