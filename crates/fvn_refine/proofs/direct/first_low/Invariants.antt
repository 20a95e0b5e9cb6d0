-- None of the ranks so far is low.
use Rattle.std.proofs.Common.{◌≡◌, ◌≤◌, ◌<◌, ℕ, Some}
use Rattle.std.specs.List.{slice_get}
use Rattle.fvn_terms.specs.declared.declarations.Rank.{Rank}
use Rattle.fvn_terms.specs.Signature.{AtOrBelow}
use Rattle.fvn_forms.specs.Ranks.{ranks_of}
use Rattle.fvn_refine.proofs.direct.first_low.Given as goal

abbrev pub invariant-loop-i : goal.invariant-loop-i
invariant-loop-i l = (j : ℕ) (r : Rank) → l.from ≤ j → j < l.i → slice_get (ranks_of l.sig l.f) j ≡ Some r → AtOrBelow l.sig r.result l.s → ⊥
