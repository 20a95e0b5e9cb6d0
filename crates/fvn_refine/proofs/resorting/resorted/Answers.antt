-- The variables are put at their sorts.
use Rattle.std.proofs.Common.{sym, subst}
use Rattle.fvn_flat.specs.Bindings.{BindingsFit}
use Rattle.fvn_refine.proofs.Resorted.{resorting_fits, resorted_is}
use Rattle.fvn_refine.proofs.resorting.resorted.Goals as goal

pub changed_by-requires-clause-then : goal.changed_by-requires-clause-then
changed_by-requires-clause-then c =
    subst (BindingsFit c.args.sig.now) (sym c.in_ok-places.ensures) (resorting_fits c.args.sig.now c.args.vars.now c.args.row.now c.requires.row)

pub returns-clause-at : goal.returns-clause-at
returns-clause-at c =
    resorted_is c.args.sig.now c.args.subst.now c.in_ok-all.all c.in_ok-places.places c.args.vars.now c.args.row.now
    c.requires.vars c.requires.row c.in_ok-places.ensures c.in_ok-all.ensures.exact

pub returns-clause-fit : goal.returns-clause-fit
returns-clause-fit c = c.in_ok-all.ensures.fits
