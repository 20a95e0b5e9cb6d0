-- The sort of a variable, and one of an operator over nodes.
use Rattle.std.proofs.Common.{Some, sym, ap, ◌∙◌, subst}
use Rattle.std.specs.Prelude.{IfSome}
use Rattle.fvn_terms.specs.Sorts.{HasSort}
use Rattle.fvn_combine_nodes.specs.declared.table.Node.TheVariants.{App}
use Rattle.fvn_combine_nodes.proofs.Nodes.{term_at-over}
use Rattle.fvn_combine_loose.proofs.Ranked.{has_own}
use Rattle.fvn_combine_loose.proofs.sorts.sort_at.Goals as goal

pub returns-in-Var : goal.returns-in-Var
returns-in-Var c = has_own c.args.sig.now c.args.table.now.nodes c.args.i c.in-Var.x (c.node.ensures ∙ ap Some c.in-Var.is)

pub returns-in-App : goal.returns-in-App
returns-in-App c =
    let nodes = c.args.table.now.nodes in
    let over = c.node.ensures ∙ ap Some c.in-App.is ∙ ap (λ ks. Some (App c.in-App.f ks)) (sym c.as_slice.ensures) in
    subst (λ t. IfSome c.sort_over.result (HasSort c.args.sig.now t)) (sym (term_at-over nodes c.recall_well_made.ensures.ordered c.args.i c.in-App.f c.as_slice.result.now over)) c.sort_over.ensures
