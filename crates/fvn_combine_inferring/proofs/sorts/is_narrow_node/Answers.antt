-- The variable of the node.
use Rattle.std.proofs.Common.{refl, sym, ap, ◌∙◌, Some}
use Rattle.std.proofs.lemmas.Bool.{false≢true, not-true}
use Rattle.fvn_combine_inferring.proofs.sorts.is_narrow_node.Goals as goal

pub returns-in-Var : goal.returns-in-Var
returns-in-Var c t = record {
  variable = c.in-Var.x;
  has = record { node = c.args.i; is = c.node.ensures ∙ ap Some c.in-Var.is; of = refl };
  none = λ a. false≢true (sym (not-true c.admits_sum.result t) ∙ c.admits_sum.ensures.1 a);
}
