-- A form that is read as a variable is that variable.
use Rattle.std.proofs.Common.{sym, ap, ◌∙◌}
use Rattle.fvn_forms.specs.Flat.{fvar}
use Rattle.fvn_combine_unfolding.proofs.Steps.{variable_is}
use Rattle.fvn_combine_unfolding.proofs.replacing.is_variable.Goals as goal

pub returns-in-Some : goal.returns-in-Some
returns-in-Some c e = variable_is c.args.t.now c.in-Some.y (sym c.as_var.ensures ∙ c.in-Some.is) ∙ ap fvar (c.are_one.ensures e)
