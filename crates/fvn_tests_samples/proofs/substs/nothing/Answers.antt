-- What binds nothing fits.
use Rattle.std.proofs.Common.{sym, subst}
use Rattle.fvn_flat.specs.Bindings.{BindingsFit}
use Rattle.fvn_flat.proofs.Composing.{empty_fits}
use Rattle.fvn_tests_samples.proofs.substs.nothing.Goals as goal

pub returns : goal.returns
returns c = subst (BindingsFit c.args.sig.now) (sym c.empty.ensures) (empty_fits c.args.sig.now)
