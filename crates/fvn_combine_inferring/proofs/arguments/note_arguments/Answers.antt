-- The operator makes no sums.
use Rattle.std.proofs.Common.{All, sym, ap, ◌∙◌, subst}
use Rattle.fvn_terms.specs.Equality.{is_sum}
use Rattle.fvn_combine_inferring.specs.inner.Sizes.{HasFewer}
use Rattle.fvn_combine_inferring.proofs.Pairing.{fewer_each}
use Rattle.fvn_combine_inferring.proofs.arguments.note_arguments.Goals as goal

pub note_each-requires-clause-fewer : goal.note_each-requires-clause-fewer
note_each-requires-clause-fewer c =
    subst (All (HasFewer c.args.sig.now c.args.table.now c.args.state.now c.args.sorted c.args.i)) (sym c.as_slice.ensures)
    (fewer_each c.args.sig.now c.args.table.now c.args.state.now c.requires.closed c.args.sorted c.recall_well_made.ensures c.args.i c.in-App.g c.in-App.ks (rw c.in-App.is at c.node.ensures)
    (ap is_sum (sym c.axioms.ensures) ∙ sym c.is_sum.ensures.exact ∙ c.if-is_sum.false))
