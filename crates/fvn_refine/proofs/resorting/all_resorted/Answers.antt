-- One more substitution.
use Rattle.std.proofs.Common.{sym, subst}
use Rattle.std.specs.Prelude.{All}
use Rattle.std.proofs.lemmas.List.Elements.{All-push}
use Rattle.fvn_flat.specs.Bindings.{BindingsFit}
use Rattle.fvn_refine.specs.Refinements.{IsAtSorts}
use Rattle.fvn_refine.specs.inner.Rows.{IsRow, way_of}
use Rattle.fvn_refine.proofs.Steps.{zip_more}
use Rattle.fvn_refine.proofs.resorting.all_resorted.Goals as goal

pub resorted-requires-clause-row : goal.resorted-requires-clause-row
resorted-requires-clause-row c = subst (IsRow c.args.sig.now c.args.vars.now) (sym c.as_slice.ensures) (c.requires.rows c.row-item.result (c.loop-row.row-index, c.loop-row-test.true, sym c.row-item.is))

pub loop-row-preserved : goal.loop-row-preserved
loop-row-preserved c = record {
  at =
      zip_more (λ row r. IsAtSorts c.args.sig.now c.args.subst.now (way_of c.args.sig.now c.args.vars.now row) r) c.args.rows.now
      c.loop-row.row-index c.row-item.result c.loop-row-test.true c.row-item.is c.loop-row.all.items _ c.in_ok-one.one
      c.loop-row.invariant.at (subst (λ row. IsAtSorts c.args.sig.now c.args.subst.now (way_of c.args.sig.now c.args.vars.now row) c.in_ok-one.one) c.as_slice.ensures c.in_ok-one.ensures.at)
      c.in_ok-push.ensures.items;
  fit =
      subst (All (BindingsFit c.args.sig.now)) (sym c.in_ok-push.ensures.items)
      (All-push (BindingsFit c.args.sig.now) c.loop-row.all.items c.in_ok-one.one c.loop-row.invariant.fit c.in_ok-one.ensures.fit);
}
