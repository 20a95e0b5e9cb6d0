-- The changed pairs fit, and bind each variable once.
use Rattle.std.proofs.Common.{sym, subst}
use Rattle.fvn_forms.specs.Canon.{inst}
use Rattle.fvn_flat.specs.Bindings.{value, BindsOnce, BindingsFit}
use Rattle.fvn_flat.proofs.Composing.{BindsOnce-changed, changed_fits}
use Rattle.fvn_flat.proofs.substitution.Subst.changed_by.Goals as goal

pub invariant_of-s : goal.invariant_of-s
invariant_of-s c =
    subst BindsOnce (sym c.in_ok-pairs.ensures)
    (BindsOnce-changed (inst c.args.sig.now (value c.args.later.now)) c.args.self.now c.recall_bindings.ensures)

pub returns-clause-exact : goal.returns-clause-exact
returns-clause-exact c = c.in_ok-pairs.ensures

pub returns-clause-fits : goal.returns-clause-fits
returns-clause-fits c =
    subst (BindingsFit c.args.sig.now) (sym c.in_ok-pairs.ensures)
    (changed_fits c.args.sig.now c.recall_good.ensures c.args.self.now c.args.later.now c.requires.first c.requires.then)
