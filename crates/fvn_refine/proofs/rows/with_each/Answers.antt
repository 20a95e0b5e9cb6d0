-- One more row.
use Rattle.std.proofs.Common.{ap, sym, ◌∙◌}
use Rattle.fvn_refine.specs.inner.Rows.{with_row}
use Rattle.fvn_refine.proofs.RowTests.{with_rows-push}
use Rattle.fvn_refine.proofs.rows.with_each.Goals as goal

pub loop-row-preserved : goal.loop-row-preserved
loop-row-preserved c =
    c.in_ok-all.ensures
    ∙ ap (λ l. with_row c.args.sig.now l c.in-Some.row) c.loop-row.invariant
    ∙ sym (with_rows-push c.args.sig.now c.args.rows.items c.loop-row.yielded c.in-Some.row)
