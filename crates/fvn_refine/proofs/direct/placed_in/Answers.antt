-- One more place.
use Rattle.std.proofs.Common.{set, sym, ap, ◌∙◌}
use Rattle.std.proofs.lemmas.Bool.{true≢false}
use Rattle.fvn_refine.proofs.Steps.{placed_next, placed_here, placed_nowhere}
use Rattle.fvn_refine.proofs.direct.placed_in.Goals as goal

pub returns-then-is_same : goal.returns-then-is_same
returns-then-is_same c =
    ap (λ l. set l c.loop-i.i c.args.s) c.loop-i.invariant.same
    ∙ placed_here c.args.vars.now c.args.row.items c.loop-i.i _ c.args.y c.args.s c.requires c.loop-i-test.true (c.is_same.ensures.0 c.if-is_same.true)
    ∙ c.loop-i.invariant.decide

pub loop-i-preserved : goal.loop-i-preserved
loop-i-preserved c = record {
  same = c.loop-i.invariant.same;
  decide =
      placed_next c.args.vars.now c.args.row.items c.loop-i.i _ c.args.y c.args.s c.requires c.loop-i-test.true (λ e. true≢false (sym (c.is_same.ensures.1 e) ∙ c.if-is_same.false))
      ∙ c.loop-i.invariant.decide;
}

pub returns : goal.returns
returns c = c.loop-i.invariant.same ∙ placed_nowhere c.args.vars.now c.args.row.items c.loop-i.i c.args.y c.args.s c.requires c.loop-i-test.false ∙ c.loop-i.invariant.decide
