-- What a test of the form that the term has under the substitution tells of the term.
use Rattle.std.proofs.Common.{◌≡◌, subst}
use Rattle.fvn_forms.specs.Canon.{inst}
use Rattle.fvn_forms.specs.Good.{IsGood}
use Rattle.fvn_flat.specs.Bindings.{value, BindingsFit}
use Rattle.fvn_flat.specs.Fits.{Fits}
use Rattle.fvn_vunify.proofs.Staying.{tested_under}
use Rattle.fvn_vunify.proofs.testing.test_under.Goals as goal

pub test_term-requires-clause-term : goal.test_term-requires-clause-term
test_term-requires-clause-term g c = λ κs w. subst (λ d. Fits d c.in_ok-u.u) c.requires.sig c.in_ok-u.ensures.fits

pub returns : goal.returns
returns g c =
    let s = g.E.Expander.setting c.args.expander.now in
    let by = c.args.s.now in
    let u = c.in_ok-u.u in
    tested_under s (subst IsGood c.requires.sig c.recall_good.ensures) (c.sequences_are_lawful.ensures s.declarations s.equations)
    by (subst (λ d. BindingsFit d by) c.requires.sig c.requires.values)
    c.args.t.now (subst (λ d. Fits d c.args.t.now) c.requires.sig c.requires.term)
    u (subst (λ d. u ≡ inst d (value by) c.args.t.now) c.requires.sig c.in_ok-u.ensures.exact) (subst (λ d. Fits d u) c.requires.sig c.in_ok-u.ensures.fits)
    c.in_ok-test.test c.in_ok-test.ensures
