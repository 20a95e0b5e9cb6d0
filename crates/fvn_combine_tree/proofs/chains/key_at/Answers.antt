-- The node is what it is found to be.
use Rattle.std.proofs.Common.{◌≡◌, ◌<◌, length, sym, ap, ◌∙◌, subst, Some, All}
use Rattle.fvn_combine_tree.specs.inner.Chains.{key_of}
use Rattle.fvn_combine_nodes.specs.declared.table.Node.TheVariants.{Var, App}
use Rattle.fvn_combine_nodes.proofs.Nodes.{arguments_within, over_unique}
use Rattle.fvn_combine_tree.proofs.chains.key_at.Goals as goal

pub returns-in-Var : goal.returns-in-Var
returns-in-Var c = λ f ks over. absurd (let e : Some (Var c.in-Var.field-0) ≡ Some (App f ks) = sym (c.node.ensures ∙ ap Some c.in-Var.is) ∙ over in cc)

pub key_over-requires : goal.key_over-requires
key_over-requires c =
    let w = c.requires.whole in
    record {
      within = c.requires.within;
      arguments = subst (All (λ k. k < length c.args.names.now)) (sym c.as_slice.ensures) (subst (λ m. All (λ k. k < m) c.in-App.ks) (sym w) (arguments_within c.args.table.now.nodes c.recall_well_made.ensures.ordered c.args.i c.in-App.f c.in-App.ks (c.node.ensures ∙ ap Some c.in-App.is)));
    }

pub returns-in-App : goal.returns-in-App
returns-in-App c = λ f ks over.
    let one = over_unique c.args.table.now.nodes c.args.i c.in-App.f f c.in-App.ks ks (c.node.ensures ∙ ap Some c.in-App.is) over in
    c.key_over.ensures ∙ ap (λ o. key_of c.args.names.now c.args.by c.args.i o c.as_slice.result.now) one.0 ∙ ap (key_of c.args.names.now c.args.by c.args.i f) (c.as_slice.ensures ∙ one.1)
