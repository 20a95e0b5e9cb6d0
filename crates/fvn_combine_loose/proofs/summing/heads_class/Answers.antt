-- Over nodes of other classes alone.
use Rattle.std.proofs.Common.{◌≢◌, Some, sym, ap, subst, ◌∙◌}
use Rattle.std.specs.Prelude.{All}
use Rattle.fvn_combine_nodes.specs.States.{class_of}
use Rattle.fvn_combine_nodes.specs.declared.table.Node.TheVariants.{App}
use Rattle.fvn_combine_loose.proofs.Summed.{headed_from}
use Rattle.fvn_combine_loose.proofs.summing.heads_class.Goals as goal

pub returns-in-App : goal.returns-in-App
returns-in-App c t =
    let s = c.args.state.now in
    let ks = c.as_slice.result.now in
    let over = c.node.ensures ∙ ap Some c.in-App.is ∙ ap (λ l. Some (App c.in-App.field-0 l)) (sym c.as_slice.ensures) in
    headed_from c.args.sig.now c.args.table.now s c.args.facts.now.sorted c.args.m c.args.i c.in-App.field-0 ks over
    (sym c.class_of.ensures ∙ c.if-class_of.false ∙ c.class_of-2.ensures)
    (subst (λ n. All (λ k. class_of s k ≢ n) ks) c.class_of-in-App.ensures (c.is_absent.ensures t))
