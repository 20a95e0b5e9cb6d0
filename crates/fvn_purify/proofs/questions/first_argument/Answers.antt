-- The list is not empty.
use Rattle.std.proofs.Common.{sym, ap, ◌∙◌, Some}
use Rattle.fvn_combine_nodes.specs.declared.table.Node.TheVariants.{App}
use Rattle.fvn_purify.proofs.Firsts.{head_rest}
use Rattle.fvn_purify.proofs.questions.first_argument.Goals as goal

pub returns-else-is_empty : goal.returns-else-is_empty
returns-else-is_empty c =
    let r = head_rest c.in-App.arguments c.as_slice.result.now c.as_slice.ensures (sym c.is_empty.ensures ∙ c.if-is_empty.false) in
    (c.in-App.field-0, r.0, c.node.ensures ∙ ap Some c.in-App.is ∙ ap (λ ks. Some (App c.in-App.field-0 ks)) r.1)
