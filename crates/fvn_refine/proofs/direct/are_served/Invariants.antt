-- The ranks so far are served.
use Rattle.std.proofs.Common.{◌≡◌, ◌≤◌, ◌<◌, ℕ, Some}
use Rattle.std.specs.List.{slice_get}
use Rattle.fvn_terms.specs.declared.declarations.Rank.{Rank}
use Rattle.fvn_terms.specs.Signature.{AtOrBelow}
use Rattle.fvn_forms.specs.Ranks.{ranks_of}
use Rattle.fvn_refine.specs.inner.Rows.{IsRowBelow}
use Rattle.fvn_refine.proofs.direct.are_served.Given as goal

abbrev pub invariant-loop-i : goal.invariant-loop-i
invariant-loop-i l = (j : ℕ) (r : Rank) → l.from ≤ j → j < l.i → slice_get (ranks_of l.sig l.f) j ≡ Some r → AtOrBelow l.sig r.result l.s → IsRowBelow l.sig r.args l.args
