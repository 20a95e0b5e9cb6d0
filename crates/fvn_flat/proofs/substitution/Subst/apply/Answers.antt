-- What is built is the instance, which fits.
use Rattle.std.proofs.Common.{sym, subst}
use Rattle.fvn_flat.specs.Bindings.{value, IsInstanceBy}
use Rattle.fvn_flat.specs.Fits.{Fits}
use Rattle.fvn_flat.proofs.Instances.{inst_equal, inst_fits}
use Rattle.fvn_flat.proofs.substitution.Subst.apply.Goals as goal

pub returns-clause-equal : goal.returns-clause-equal
returns-clause-equal c =
    subst (IsInstanceBy c.args.sig.now c.args.self.now c.args.t.now) (sym c.in_ok-u.ensures)
    (inst_equal c.args.sig.now (value c.args.self.now) c.recall_good.ensures c.requires.subst c.args.t.now c.requires.term.kinded)

pub returns-clause-fits : goal.returns-clause-fits
returns-clause-fits c = subst (Fits c.args.sig.now) (sym c.in_ok-u.ensures) (inst_fits c.args.sig.now (value c.args.self.now) c.recall_good.ensures c.requires.subst c.args.t.now c.requires.term)
