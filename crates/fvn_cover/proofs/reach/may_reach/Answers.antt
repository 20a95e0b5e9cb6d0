-- Two variables, of which the second has no lower sort.
use Rattle.std.proofs.Common.{sym, ◌∙◌}
use Rattle.std.proofs.lemmas.Bool.{iff_false}
use Rattle.fvn_cover.proofs.Reaching.{variable_is}
use Rattle.fvn_cover.proofs.reach.may_reach.Goals as goal

pub returns : goal.returns
returns c = λ e. record {
  pattern = c.in-Some.x;
  target = c.in-Some-as_var.y;
  is_pattern = variable_is c.args.p.now c.in-Some.x (sym c.as_var.ensures ∙ c.in-Some.is);
  is_target = variable_is c.args.t.now c.in-Some-as_var.y (sym c.as_var-2.ensures ∙ c.in-Some-as_var.is);
  not_below = iff_false c.leq.ensures e;
}
