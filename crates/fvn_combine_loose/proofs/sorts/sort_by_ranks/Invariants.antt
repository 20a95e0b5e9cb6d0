-- The sort so far is one.
use Rattle.std.proofs.Common.{◌≡◌, map}
use Rattle.std.specs.Prelude.{IfSome}
use Rattle.fvn_terms.specs.declared.plain.OpId.{OpId}
use Rattle.fvn_terms.specs.Term.{app, pack}
use Rattle.fvn_terms.specs.Signature.{declared}
use Rattle.fvn_terms.specs.Sorts.{HasSort}
use Rattle.fvn_combine_nodes.specs.Table.{term_at}
use Rattle.fvn_combine_loose.proofs.sorts.sort_by_ranks.Given as goal

abbrev pub invariant-loop-rank : goal.invariant-loop-rank
invariant-loop-rank l = IfSome l.best (λ s. (f : OpId) → (declared l.sig f).ranks ≡ l.fn.ranks → HasSort l.sig (app f (pack (map (term_at l.table.nodes) l.ks))) s)
