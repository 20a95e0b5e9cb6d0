-- The ranks so far are so.
use Rattle.std.proofs.Common.{ℕ, ◌<◌, get_or}
use Rattle.fvn_terms.specs.declared.declarations.Rank.{Rank}
use Rattle.fvn_combine_loose.specs.inner.NodeSorts.{IsWithin}
use Rattle.fvn_combine_loose.proofs.sum_sorts.are_within.Given as goal

abbrev pub invariant-loop-p : goal.invariant-loop-p
invariant-loop-p l = (p : ℕ) (r : Rank) → p < l.p → IsWithin l.sig l.q (get_or l.ranks p r)
