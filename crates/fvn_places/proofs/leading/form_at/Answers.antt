-- One argument more on the path.
use Rattle.std.proofs.Common.{arith}
use Rattle.fvn_places.proofs.PathFacts.{leads_on, leads_nowhere, leads_here}
use Rattle.fvn_places.proofs.leading.form_at.Goals as goal

pub loop-i-preserved : goal.loop-i-preserved
loop-i-preserved c x =
    let before = c.loop-i.invariant x in
    let on = leads_on c.args.path.now c.loop-i.i-index _ c.loop-i.at.now c.index-ts-i.result c.args-ts.result.now c.loop-i-test.true c.args-ts.ensures.exact (omega (arith, c.if-i-ts.false)) c.index-ts-i.is x in (
      λ h. on.0 (before.0 h),
      λ h. before.1 (on.1 h),
    )

pub returns-then-i-ts : goal.returns-then-i-ts
returns-then-i-ts c x h = leads_nowhere c.args.path.now c.loop-i.i-index 0 c.loop-i.at.now c.args-ts.result.now c.loop-i-test.true c.args-ts.ensures.exact (omega (arith, c.if-i-ts.true)) x ((c.loop-i.invariant x).0 h)

pub returns : goal.returns
returns c = (c.loop-i.invariant c.loop-i.at.now).1 (leads_here c.args.path.now c.loop-i.i-index c.loop-i.at.now (omega arith))
