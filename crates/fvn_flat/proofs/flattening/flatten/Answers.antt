-- A well-kinded term is equal modulo the axioms to its flat form, which fits.
use Rattle.std.proofs.Common.{sym, subst}
use Rattle.fvn_terms.specs.Plain.{term}
use Rattle.fvn_terms.specs.Equality.{BEqual}
use Rattle.fvn_forms.specs.Flat.{plain}
use Rattle.fvn_forms.proofs.ToCanon.{to_canon}
use Rattle.fvn_flat.specs.Fits.{Fits}
use Rattle.fvn_flat.proofs.Fitting.{canon_fits}
use Rattle.fvn_flat.proofs.flattening.flatten.Goals as goal

pub returns-clause-equal : goal.returns-clause-equal
returns-clause-equal c =
    subst (λ u. BEqual c.args.sig.now (term c.args.t.now) (plain u)) (sym c.in_ok-u.ensures) (to_canon c.args.sig.now c.recall_good.ensures.fits (term c.args.t.now) c.requires.0 c.requires.1)

pub returns-clause-fits : goal.returns-clause-fits
returns-clause-fits c = subst (Fits c.args.sig.now) (sym c.in_ok-u.ensures) (canon_fits c.args.sig.now c.recall_good.ensures.fits (term c.args.t.now) c.requires)
