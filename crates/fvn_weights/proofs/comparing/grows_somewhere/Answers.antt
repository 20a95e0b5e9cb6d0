-- One number more.
use Rattle.std.proofs.Common.{◌∙◌, arith}
use Rattle.fvn_weights.specs.inner.Numbers.{found}
use Rattle.fvn_weights.proofs.FormTests.{none_told, one_passed, one_above, none_above}
use Rattle.fvn_weights.proofs.comparing.grows_somewhere.Goals as goal

pub loop-i-init : goal.loop-i-init
loop-i-init c = none_told (found c.args.left.now.factors.items) c.args.right.now.factors.items

pub loop-i-preserved : goal.loop-i-preserved
loop-i-preserved c =
    one_passed (found c.args.left.now.factors.items) c.args.right.now.factors.items c.loop-i.i c.grows_at-grows.result c.grows_at-grows.ensures c.if-grows.false c.loop-i.invariant

pub returns-then-grows : goal.returns-then-grows
returns-then-grows c = one_above (found c.args.left.now.factors.items) c.args.right.now.factors.items c.loop-i.i c.grows_at-grows.result c.grows_at-grows.ensures c.if-grows.true

pub returns : goal.returns
returns c = none_above (found c.args.left.now.factors.items) c.args.right.now.factors.items c.loop-i.i (let n = c.len-i-end.ensures ∙ c.args.right.now.factors.ok.0 in omega (arith, n, c.loop-i-test.false)) c.loop-i.invariant
