-- The sorts so far are below.
use Rattle.std.proofs.Common.{ℕ, ◌<◌, get_or}
use Rattle.fvn_terms.specs.declared.plain.SortId.{SortId}
use Rattle.fvn_terms.specs.Signature.{AtOrBelow}
use Rattle.fvn_combine_loose.proofs.sum_sorts.are_below.Given as goal

abbrev pub invariant-loop-p : goal.invariant-loop-p
invariant-loop-p l = (p : ℕ) (s : SortId) → p < l.p → AtOrBelow l.sig (get_or l.sorts p s) l.q
