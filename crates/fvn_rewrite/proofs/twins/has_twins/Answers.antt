-- One pair more.
use Rattle.std.proofs.Common.{◌||◌, ◌+◌, drop, refl, sym, ap, ◌∙◌, arith}
use Rattle.fvn_rewrite.specs.inner.Twins.{has_twins}
use Rattle.fvn_rewrite.proofs.Repeated.{next_twins, no_more_twins, alike, unalike}
use Rattle.fvn_rewrite.proofs.twins.has_twins.Goals as goal

pub loop-i-init : goal.loop-i-init
loop-i-init c = record { within = omega arith; left = refl }

pub returns-then-same : goal.returns-then-same
returns-then-same c =
    sym (
    c.loop-i.invariant.left
    ∙ next_twins c.args.ts.now c.loop-i.i c.index-ts-i.result c.index-ts-i-in-loop-i.result (omega (arith, c.loop-i-test.true)) c.index-ts-i.is c.index-ts-i-in-loop-i.is
    ∙ ap (λ b. b || has_twins (drop (c.loop-i.i + 1) c.args.ts.now)) (alike c.index-ts-i.result c.index-ts-i-in-loop-i.result (c.same-same.ensures.exact.0 c.if-same.true))
    )

pub loop-i-preserved : goal.loop-i-preserved
loop-i-preserved c = record {
  within = omega (arith, c.loop-i-test.true);
  left = c.loop-i.invariant.left
      ∙ next_twins c.args.ts.now c.loop-i.i c.index-ts-i.result c.index-ts-i-in-loop-i.result (omega (arith, c.loop-i-test.true)) c.index-ts-i.is c.index-ts-i-in-loop-i.is
      ∙ ap (λ b. b || has_twins (drop (c.loop-i.i + 1) c.args.ts.now)) (unalike c.index-ts-i.result c.index-ts-i-in-loop-i.result c.same-same.result c.same-same.ensures.exact.1 c.if-same.false);
}

pub returns : goal.returns
returns c = sym (c.loop-i.invariant.left ∙ no_more_twins c.args.ts.now c.loop-i.i (omega (arith, c.loop-i-test.false)))
