-- Another operator heads the node, or none.
use Rattle.std.proofs.Common.{◌≡◌, true, false, ap, ◌∙◌, sym, Some}
use Rattle.fvn_combine_questions.proofs.Swapping.{no_swap_variable, no_swap_over}
use Rattle.fvn_combine_questions.proofs.swaps.is_commutative.Goals as goal

pub returns-in-Var : goal.returns-in-Var
returns-in-Var c = λ lost. no_swap_variable c.args.sig.now c.args.table.now c.args.i c.in-Var.field-0 (c.node.ensures ∙ ap Some c.in-Var.is)

pub returns-in-App : goal.returns-in-App
returns-in-App c = λ lost.
    no_swap_over c.args.sig.now c.args.table.now c.args.i c.in-App.f c.in-App.field-1 (c.node.ensures ∙ ap Some c.in-App.is)
    (λ is. let z : true ≡ false = sym (c.is_only_commutative.ensures.1 (c.axioms.ensures ∙ is)) ∙ lost in cc)
