-- A member, with its arguments.
use Rattle.std.proofs.Common.{◌<◌, length, All, sym, ap, ◌∙◌, subst, Some}
use Rattle.std.proofs.lemmas.Bool.{not-false}
use Rattle.fvn_forms.proofs.Sums.{same_op_is}
use Rattle.fvn_combine_nodes.proofs.Nodes.{arguments_within}
use Rattle.fvn_combine_questions.proofs.Labelled.{member_from}
use Rattle.fvn_combine_questions.proofs.labels.added_classes.Goals as goal

pub two_classes-requires : goal.two_classes-requires
two_classes-requires c =
    let within = arguments_within c.args.table.now.nodes c.recall_well_made.ensures.ordered c.args.i c.in-App.g c.in-App.ks (c.node.ensures ∙ ap Some c.in-App.is) in
    subst (λ n. All (λ k. k < n) c.as_slice.result.now) (sym c.requires.whole) (subst (All (λ k. k < length c.args.table.now.nodes)) (sym c.as_slice.ensures) within)

pub returns-else-ne : goal.returns-else-ne
returns-else-ne c =
    member_from c.args.table.now c.args.state.now c.args.f c.args.k c.args.i c.in-App.ks c.in-App.g
    (c.node.ensures ∙ ap Some c.in-App.is) (same_op_is c.in-App.g c.args.f (not-false _ (sym c.if-ne.ensures)))
    (sym c.class_of.ensures ∙ c.if-class_of-k.false)
    c.as_slice.result.now c.as_slice.ensures c.two_classes.result c.two_classes.ensures
