-- One number more.
use Rattle.std.proofs.Common.{◌∙◌, arith}
use Rattle.fvn_weights.specs.declared.limits.TheConstants.{MOST}
use Rattle.fvn_weights.proofs.FormTests.{none_told, one_passed, one_above, none_above}
use Rattle.fvn_weights.proofs.comparing.has_over.Goals as goal

pub loop-i-init : goal.loop-i-init
loop-i-init c = none_told (λ x. MOST) c.args.form.now.factors.items

pub loop-i-preserved : goal.loop-i-preserved
loop-i-preserved c = one_passed (λ x. MOST) c.args.form.now.factors.items c.loop-i.i c.is_over_at-over.result c.is_over_at-over.ensures c.if-over.false c.loop-i.invariant

pub returns-then-over : goal.returns-then-over
returns-then-over c = one_above (λ x. MOST) c.args.form.now.factors.items c.loop-i.i c.is_over_at-over.result c.is_over_at-over.ensures c.if-over.true

pub returns : goal.returns
returns c = none_above (λ x. MOST) c.args.form.now.factors.items c.loop-i.i (let n = c.len-i-end.ensures ∙ c.args.form.now.factors.ok.0 in omega (arith, n, c.loop-i-test.false)) c.loop-i.invariant
