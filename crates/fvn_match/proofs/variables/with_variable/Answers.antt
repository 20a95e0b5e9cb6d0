-- a variable that is listed, and one that is not
use Rattle.std.proofs.Common.{sym, ap, ◌∙◌}
use Rattle.fvn_flat.specs.Variables.{listed}
use Rattle.fvn_match.proofs.VariableSteps.{collects_same, collects_push}
use Rattle.fvn_match.proofs.variables.with_variable.Goals as goal

pub returns-then-is_listed : goal.returns-then-is_listed
returns-then-is_listed c = collects_same c.args.vars.items c.args.x c.requires (ap (λ l. listed l c.args.x) (sym c.as_slice.ensures.value) ∙ sym c.is_listed.ensures ∙ c.if-is_listed.true)

pub returns : goal.returns
returns c = rw c.in_ok-push.ensures.items (collects_push c.args.vars.items c.args.x c.requires (ap (λ l. listed l c.args.x) (sym c.as_slice.ensures.value) ∙ sym c.is_listed.ensures ∙ c.if-is_listed.false))
