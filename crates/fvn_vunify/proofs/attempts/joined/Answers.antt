-- What is left of the whole fits as it does.
use Rattle.fvn_flat.proofs.Composing.{restriction_fits}
use Rattle.fvn_vunify.proofs.attempts.joined.Goals as goal

pub returns-clause-fits : goal.returns-clause-fits
returns-clause-fits c = restriction_fits c.args.sig.now c.args.vars.now c.in_ok-whole.whole c.in_ok-made.made c.in_ok-made.ensures c.in_ok-whole.ensures.fits
