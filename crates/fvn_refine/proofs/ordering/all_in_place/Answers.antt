-- One more row.
use Rattle.std.proofs.Common.{ap, sym, ◌∙◌}
use Rattle.fvn_refine.specs.inner.Ordering.{with_in_place}
use Rattle.fvn_refine.proofs.InOrder.{all_place-push}
use Rattle.fvn_refine.proofs.ordering.all_in_place.Goals as goal

pub loop-row-preserved : goal.loop-row-preserved
loop-row-preserved c =
    c.in_ok-all.ensures
    ∙ ap (λ l. with_in_place l c.in-Some.row) c.loop-row.invariant
    ∙ sym (all_place-push _ c.loop-row.yielded c.in-Some.row)
