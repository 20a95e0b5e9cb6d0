-- One more sort is put below the others.
use Rattle.std.proofs.Common.{ℕ, ◌+◌, List, map, drop, get_or, sym, ap, ◌∙◌}
use Rattle.std.proofs.lemmas.List.{drop_more}
use Rattle.fvn_terms.specs.declared.plain.SortId.{SortId}
use Rattle.fvn_forms.specs.SortOrder.{sort_number}
use Rattle.fvn_module_names.specs.Order.{crossed}
use Rattle.fvn_module_declarations.specs.inner.Pairs.{with_more, row}
use Rattle.fvn_module_declarations.proofs.DistinctLists.{with_more-append}
use Rattle.fvn_module_declarations.proofs.pairs.PairBuilder.add_crossed.Goals as goal

pub loop-low-preserved : goal.loop-low-preserved
loop-low-preserved c =
    let i : ℕ = c.loop-low.low-index in
    let low : ℕ = get_or c.args.lows.now i 0 in
    let rest : List SortId = map sort_number (drop (i + 1) c.args.lows.now) in
    let highs : List SortId = map sort_number c.args.highs.now in
    let next = drop_more c.args.lows.now i 0 c.loop-low-test.true in
    ap (λ b. with_more b (crossed rest highs)) c.in_ok-pairs.ensures
    ∙ sym (with_more-append c.loop-low.pairs (row (sort_number low) highs) (crossed rest highs))
    ∙ ap (λ ls. with_more c.loop-low.pairs (crossed (map sort_number ls) highs)) (sym next)
    ∙ c.loop-low.invariant
