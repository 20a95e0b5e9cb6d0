-- One operator more.
use Rattle.std.proofs.Common.{◌≤◌, length, refl, arith}
use Rattle.fvn_weights.proofs.FitTests.{contradicts, fits_more, all_fit}
use Rattle.fvn_weights.proofs.fitting.unfit.Goals as goal

pub loop-n-preserved : goal.loop-n-preserved
loop-n-preserved c = fits_more c.args.sig.now c.args.weights.now.list c.loop-n.n _ refl c.loop-n.invariant (c.fits-fit.ensures.0 c.if-not-fit.false)

pub returns-then-not-fit : goal.returns-then-not-fit
returns-then-not-fit c = (λ h. contradicts c.fits-fit.result (c.fits-fit.ensures.1 h) c.if-not-fit.true, c.loop-n.invariant)

pub returns : goal.returns
returns c =
    let le : length c.args.sig.now.ops ≤ c.loop-n.n = omega (arith, c.loop-n-test.false, c.loop-n.auto.n-end, c.op_count-n-end.ensures) in
    all_fit c.args.sig.now c.args.weights.now.list c.requires c.loop-n.n le c.loop-n.invariant
