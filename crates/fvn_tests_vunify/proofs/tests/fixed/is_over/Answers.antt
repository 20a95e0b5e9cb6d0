-- What is listed of a form is what occurs in it.
use Rattle.std.proofs.Common.{◌≡◌, ap, ◌∙◌, subst}
use Rattle.std.specs.Prelude.{Contains}
use Rattle.fvn_terms.specs.declared.plain.Var.{Var}
use Rattle.fvn_forms.specs.Flat.{fvar}
use Rattle.fvn_flat.specs.Variables.{with_variables}
use Rattle.fvn_tests_vunify.proofs.Asking.{over_one}
use Rattle.fvn_tests_vunify.proofs.tests.fixed.is_over.Goals as goal

pub returns : goal.returns
returns c = λ h.
    over_one c.args.first.now c.args.t.now c.in_ok-vars.vars.items (c.in_ok-vars.ensures ∙ ap (with_variables c.args.t.now) c.new.ensures.items)
    (subst (λ l. (y : Var) → Contains l y → c.args.first.now ≡ fvar y) c.as_slice.ensures.value (c.is_only-only.ensures h))
