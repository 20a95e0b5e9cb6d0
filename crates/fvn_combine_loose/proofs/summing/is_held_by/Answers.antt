-- By what is told of other nodes of the same classes.
use Rattle.std.proofs.Common.{sym, ◌∙◌}
use Rattle.std.proofs.lemmas.Bool.{eqb-true, not-false}
use Rattle.fvn_forms.specs.Canon.{same_op}
use Rattle.fvn_forms.proofs.Sums.{same_op_is}
use Rattle.fvn_combine_loose.proofs.Summed.{held_of}
use Rattle.fvn_combine_loose.proofs.summing.is_held_by.Goals as goal

pub returns : goal.returns
returns c t =
    let f = c.args.held.0 in
    let g = c.args.sum.0 in
    held_of c.args.sig.now c.args.table.now c.args.state.now c.args.facts.now.sorted c.args.held c.requires.held g c.args.sum.1 c.args.i
    (same_op_is f g (not-false (same_op f g) (sym c.ne.ensures ∙ c.if-ne.false)))
    (sym c.class_of.ensures ∙ c.if-class_of.false ∙ c.class_of-2.ensures) (sym c.class_of-3.ensures ∙ eqb-true c.class_of-3.result c.class_of-4.result t ∙ c.class_of-4.ensures)
