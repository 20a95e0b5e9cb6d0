-- One more line.
use Rattle.std.proofs.Common.{◌≡◌, get_or, sym, subst}
use Rattle.fvn_cmd_variants.specs.inner.Steps.{IsPrintable}
use Rattle.fvn_cmd_variants.proofs.Listed.{line-of, lines-more}
use Rattle.fvn_cmd_variants.proofs.lines.lines_of.Goals as goal

pub loop-v-preserved : goal.loop-v-preserved
loop-v-preserved c =
    lines-more c.args.declared.now c.args.query.now c.args.variants.now c.loop-v.v-index c.v-item.result c.loop-v-test.true c.v-item.is c.loop-v.lines.items _ c.in_ok-line.line
    c.loop-v.invariant
    (line-of c.args.declared.now c.args.query.now c.v-item.result
    (subst (IsPrintable c.args.declared.now.signature c.args.query.now.vars) (sym c.v-item.is) (c.requires.variants c.loop-v.v-index c.v-item.result c.loop-v-test.true))
    _ (subst (λ ts. c.index-terms-0.result ≡ get_or ts 0 c.index-terms-0.result) c.as_slice-terms.ensures c.index-terms-0.is) _ c.as_slice-vars.ensures _ c.in_ok-line.ensures.reads c.in_ok-line.ensures.least c.in_ok-line.ensures.plain)
    c.in_ok-push.ensures.items
