-- A form that is its own normal form is irreducible.
use Rattle.std.proofs.Common.{subst}
use Rattle.fvn_forms.specs.Flat.{plain}
use Rattle.fvn_terms.specs.Rewriting.{IsIrreducible}
use Rattle.fvn_rewrite_laws.specs.Normalised.{IsForm}
use Rattle.fvn_tests_vunify.proofs.tests.fixed.is_normal.Goals as goal

pub returns-in-Form : goal.returns-in-Form
returns-in-Form g c =
    let s = g.E.Expander.setting c.args.expander.now in
    let form : IsForm s.declarations s.equations c.args.t.now s.bounds c.in-Form.form = rw c.in-Form.is at c.in_ok-form.ensures.normal in
    λ same. subst (λ u. IsIrreducible s.declarations s.equations (plain u)) (c.same-normal.ensures.exact.0 same) form.irreducible
