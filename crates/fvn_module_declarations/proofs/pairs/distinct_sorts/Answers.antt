-- One more name is looked up.
use Rattle.std.proofs.Common.{[], ◌∷◌, take, sym, ap, ◌∙◌}
use Rattle.fvn_forms.specs.SortOrder.{same_sort}
use Rattle.fvn_module_names.specs.Order.{with_all, declared_among}
use Rattle.fvn_module_names.proofs.NewLists.{with_all-append}
use Rattle.fvn_module_names.proofs.OrderLemmas.{declared-more, distinct-below}
use Rattle.fvn_module_declarations.proofs.pairs.distinct_sorts.Goals as goal

pub loop-name-preserved : goal.loop-name-preserved
loop-name-preserved c =
    let more = declared-more c.args.sorts.now c.args.names.now c.loop-name.name-index c.name-item.result c.loop-name-test.true c.name-item.is in
    let placed = rw (c.place.ensures, c.bytes.ensures) at c.in_ok-insert_sort.ensures in
    placed
    ∙ ap (λ ss. with_all same_sort ss (declared_among c.args.sorts.now (c.name-item.result ∷ []))) c.loop-name.invariant
    ∙ sym (with_all-append same_sort [] (declared_among c.args.sorts.now (take c.loop-name.name-index c.args.names.now)) (declared_among c.args.sorts.now (c.name-item.result ∷ [])))
    ∙ ap (with_all same_sort []) (sym more)

pub returns-clause-in_range : goal.returns-clause-in_range
returns-clause-in_range c = distinct-below c.args.sorts.now (take c.loop-name.name-index c.args.names.now) c.loop-name.distinct.items c.loop-name.invariant
