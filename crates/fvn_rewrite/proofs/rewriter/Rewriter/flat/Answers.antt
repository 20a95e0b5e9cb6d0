-- What is said of the form.
use Rattle.std.proofs.Common.{◌≡◌, sym, subst}
use Rattle.fvn_terms.specs.Plain.{term}
use Rattle.fvn_terms.specs.Signature.{IsTerm}
use Rattle.fvn_terms.specs.Equality.{BEqual}
use Rattle.fvn_forms.specs.Flat.{plain}
use Rattle.fvn_forms.specs.Canon.{canon}
use Rattle.fvn_flat.specs.Fits.{Fits}
use Rattle.fvn_rewrite.specs.Usable.{Rewriting}
use Rattle.fvn_rewrite.proofs.rewriter.Rewriter.flat.Goals as goal

pub flatten-requires : goal.flatten-requires
flatten-requires c = subst (λ (r : Rewriting). IsTerm r.signature (term c.args.t.now)) (sym c.self.view_is) c.requires

pub returns-clause-exact : goal.returns-clause-exact
returns-clause-exact c = subst (λ (r : Rewriting). c.in_ok-form.form ≡ canon r.signature (term c.args.t.now)) c.self.view_is c.in_ok-form.ensures.exact

pub returns-clause-equal : goal.returns-clause-equal
returns-clause-equal c = subst (λ (r : Rewriting). BEqual r.signature (term c.args.t.now) (plain c.in_ok-form.form)) c.self.view_is c.in_ok-form.ensures.equal

pub returns-clause-fits : goal.returns-clause-fits
returns-clause-fits c = subst (λ (r : Rewriting). Fits r.signature c.in_ok-form.form) c.self.view_is c.in_ok-form.ensures.fits
