-- The operators of a reading are associative.
use Rattle.std.proofs.Common.{sym, subst, Contains}
use Rattle.std.proofs.lemmas.List.Elements.{Contains-get_or}
use Rattle.fvn_combine_leaves.proofs.ReadOfState.{sum_operator}
use Rattle.fvn_combine_inferring.proofs.sizes.note_node.Goals as goal

pub note_inside-requires-clause-associative : goal.note_inside-requires-clause-associative
note_inside-requires-clause-associative c =
    (sum_operator c.args.sig.now c.args.table.now c.recall_well_made.ensures c.args.state.now c.requires.closed c.args.reading.now c.requires.reading c.sums-item.result
    (subst (λ l. Contains l c.sums-item.result) c.as_slice-sums-items.ensures
    (subst (Contains c.as_slice-sums-items.result.now) (sym c.sums-item.is) (Contains-get_or c.as_slice-sums-items.result.now c.loop-sums.sums-index _ c.loop-sums-test.true)))).associative
