-- The kind of a variable, and of what an operator gives.
use Rattle.std.proofs.Common.{ap, ◌∙◌, Some}
use Rattle.fvn_combine_triangular.proofs.Naming.{kind_of_variable, kind_of_operator}
use Rattle.fvn_combine_triangular.proofs.names.node_kind.Goals as goal

pub returns-in-Var : goal.returns-in-Var
returns-in-Var c = λ k h. c.kind.ensures.exact ∙ kind_of_variable c.args.table.now c.recall_well_made.ensures c.args.sig.now c.args.i c.in-Var.x (c.node.ensures ∙ ap Some c.in-Var.is) k h

pub returns-in-App : goal.returns-in-App
returns-in-App c = λ k h. kind_of_operator c.args.table.now c.recall_well_made.ensures c.args.sig.now c.args.i c.in-App.f c.in-App.field-1 (c.node.ensures ∙ ap Some c.in-App.is) c.operator_kind.result c.operator_kind.ensures k h
