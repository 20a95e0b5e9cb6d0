-- The invariant of the search for a bad declaration.
use Rattle.std.proofs.Common.{◌≡◌, ℕ, ◌<◌, get_or}
use Rattle.fvn_signature_draft.specs.declared.collected.Declaration.{Declaration}
use Rattle.fvn_sorts.specs.Faults.{HasBadShape}
use Rattle.fvn_sorts.proofs.conditions.shapes.has_bad_declaration.Given as goal

-- none so far is bad
abbrev pub invariant-loop-declaration : goal.invariant-loop-declaration
invariant-loop-declaration l = (k : ℕ) (d : Declaration) → k < l.declaration-index → ((get_or l.declaration-items k d).op ≡ l.op) × HasBadShape l.collected (get_or l.declaration-items k d) → ⊥
