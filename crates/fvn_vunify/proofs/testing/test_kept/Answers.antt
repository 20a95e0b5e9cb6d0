-- The values, and then the fixed terms.
use Rattle.std.proofs.Common.{sym, subst, inl}
use Rattle.std.specs.Prelude.{All}
use Rattle.fvn_terms.specs.declared.plain.Var.{Var}
use Rattle.fvn_terms.specs.Signature.{IsSort}
use Rattle.fvn_flat.specs.Bindings.{BindingsFit}
use Rattle.fvn_flat.specs.Fits.{AllFit}
use Rattle.fvn_vunify.specs.inner.Tests.{AreTestsUnder}
use Rattle.fvn_vunify.proofs.Staying.{with_values}
use Rattle.fvn_vunify.proofs.testing.test_kept.Goals as goal

pub test_values-requires-clause-values : goal.test_values-requires-clause-values
test_values-requires-clause-values g c = λ κs w. subst (λ d. BindingsFit d c.args.s.now) c.requires.sig c.requires.values

pub test_values-requires-clause-sorts : goal.test_values-requires-clause-sorts
test_values-requires-clause-sorts g c = λ κs w. subst (λ d. All (λ (x : Var). IsSort d x.sort) c.args.vars.now) c.requires.sig c.requires.sorts

pub test_terms-requires-clause-terms : goal.test_terms-requires-clause-terms
test_terms-requires-clause-terms g c = λ κs w. subst (λ d. AllFit d c.fixed-fixed.result.now) (sym c.requires.sig) c.fixed-fixed.ensures.fit

pub returns-in_ok-test-in-Irreducible : goal.returns-in_ok-test-in-Irreducible
returns-in_ok-test-in-Irreducible g c =
    let s = g.E.Expander.setting c.args.expander.now in
    let by = c.args.s.now in
    with_values s c.args.vars.now by (rw c.in-Irreducible.is at c.in_ok-test_values.ensures) c.in_ok-test-in-Irreducible.test
    (subst (λ ts. AreTestsUnder s by ts c.in_ok-test-in-Irreducible.test) c.fixed-fixed.ensures.exact c.in_ok-test-in-Irreducible.ensures)

pub returns-in-Reducible : goal.returns-in-Reducible
returns-in-Reducible g c = inl (rw c.in-Reducible.is at c.in_ok-test_values.ensures)

pub returns-in-Stopped : goal.returns-in-Stopped
returns-in-Stopped g c = inl (rw c.in-Stopped.is at c.in_ok-test_values.ensures)
