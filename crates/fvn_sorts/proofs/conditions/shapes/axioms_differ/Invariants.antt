-- The invariant of the search for other axioms.
use Rattle.std.proofs.Common.{◌≡◌, ℕ, ◌<◌, get_or}
use Rattle.fvn_signature_draft.specs.declared.collected.Declaration.{Declaration}
use Rattle.fvn_sorts.proofs.conditions.shapes.axioms_differ.Given as goal

-- no declaration of the operator so far has other axioms than the first
abbrev pub invariant-loop-declaration : goal.invariant-loop-declaration
invariant-loop-declaration l = (k : ℕ) (d : Declaration) → k < l.declaration-index → ((get_or l.declaration-items k d).op ≡ l.op) × ((get_or l.declaration-items k d).axioms ≡ l.first → ⊥) → ⊥
