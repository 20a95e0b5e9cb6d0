-- The nodes so far have the sorts.
use Rattle.std.proofs.Common.{ℕ, ◌<◌, get_or}
use Rattle.fvn_terms.specs.declared.plain.SortId.{SortId}
use Rattle.fvn_terms.specs.Sorts.{HasSort}
use Rattle.fvn_combine_nodes.specs.Table.{term_at}
use Rattle.fvn_combine_loose.proofs.sorts.fit.Given as goal

abbrev pub invariant-loop-p : goal.invariant-loop-p
invariant-loop-p l = (p k : ℕ) (s : SortId) → p < l.p → HasSort l.sig (term_at l.table.nodes (get_or l.ks p k)) (get_or l.args p s)
