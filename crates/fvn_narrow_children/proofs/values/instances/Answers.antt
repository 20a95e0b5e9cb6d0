-- One more form fits.
use Rattle.fvn_flat.specs.Fits.{Fits}
use Rattle.fvn_flat.proofs.Instances.{each_at}
use Rattle.fvn_narrow_children.proofs.values.instances.Goals as goal

pub apply-requires : goal.apply-requires
apply-requires c = record {
  subst = c.requires.subst;
  term = each_at (Fits c.args.sig.now) c.args.ts.now c.requires.terms c.loop-t.t-index c.t-item.result c.loop-t-test.true c.t-item.is;
}
