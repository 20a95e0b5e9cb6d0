-- What is listed fits in the signature of the inner expander.
use Rattle.std.proofs.Common.{map, sym, ap, subst}
use Rattle.fvn_forms.specs.Flat.{plain}
use Rattle.fvn_flat.specs.Fits.{AllFit}
use Rattle.fvn_tests_vunify.proofs.fixing.FixingExpander.fixed.Goals as goal

pub returns-clause-exact : goal.returns-clause-exact
returns-clause-exact g c = ap (map plain) c.terms.ensures.terms

pub returns-clause-fit : goal.returns-clause-fit
returns-clause-fit g c =
    let self = c.args.self.now in
    subst (λ d. AllFit d c.terms.result.now) self.one_signature (subst (AllFit self.listed.declarations) (sym c.terms.ensures.terms) c.terms.ensures.fit)
