-- One pattern and one target more.
use Rattle.std.proofs.Common.{refl}
use Rattle.fvn_match.specs.inner.Goals.{bindings_of}
use Rattle.fvn_match.proofs.TakingApart.{kept_one}
use Rattle.fvn_match.proofs.apart.Apart.keep.Goals as goal

pub returns : goal.returns
returns c = kept_one c.args.sig.now (bindings_of c.args.bound.now) c.args.self.now _ c.args.p c.args.t c.requires.fits c.requires.pair refl c.in_ok-push.ensures.items c.in_ok-push-2.ensures.items
