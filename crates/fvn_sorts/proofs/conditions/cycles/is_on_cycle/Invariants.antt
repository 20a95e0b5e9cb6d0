-- The invariant of the search for a pair that closes a cycle.
use Rattle.std.proofs.Common.{◌≡◌, ℕ, ◌<◌, get_or}
use Rattle.fvn_terms.specs.declared.plain.SortId.{SortId}
use Rattle.fvn_terms.specs.Signature.{AtOrBelow}
use Rattle.fvn_sorts.proofs.conditions.cycles.is_on_cycle.Given as goal

-- no pair so far closes a cycle
abbrev pub invariant-loop-pair : goal.invariant-loop-pair
invariant-loop-pair l = (k : ℕ) (d : SortId × SortId) → k < l.pair-index → ((get_or l.pair-items k d).0 ≡ l.s) × AtOrBelow l.draft.declarations (get_or l.pair-items k d).1 l.s → ⊥
