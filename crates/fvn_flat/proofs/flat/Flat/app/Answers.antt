-- What an operator builds over forms that it takes fits.
use Rattle.std.proofs.Common.{sym, subst}
use Rattle.fvn_terms.specs.Equality.{BEqual}
use Rattle.fvn_forms.specs.Flat.{plain}
use Rattle.fvn_flat.specs.Fits.{Fits, plain_over}
use Rattle.fvn_flat.proofs.Fitting.{all_settled, build_equal, build_fits}
use Rattle.fvn_flat.proofs.flat.Flat.app.Goals as goal

pub returns-clause-equal : goal.returns-clause-equal
returns-clause-equal c =
    subst (λ t. BEqual c.args.sig.now (plain_over c.args.sig.now c.args.op c.args.args.items) (plain t)) (sym c.in_ok-t.ensures)
    (build_equal c.args.sig.now c.recall_good.ensures.fits c.args.op c.args.args.items (all_settled c.args.sig.now c.args.args.items c.requires.fit) c.requires.takes)

pub returns-clause-fits : goal.returns-clause-fits
returns-clause-fits c =
    subst (Fits c.args.sig.now) (sym c.in_ok-t.ensures) (build_fits c.args.sig.now c.recall_good.ensures.fits c.args.op c.args.args.items c.requires.fit c.requires.takes)
