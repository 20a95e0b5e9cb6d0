-- One more sort.
use Rattle.std.proofs.Common.{◌∷◌, ◌++◌, [], map, take, sym, ap, ◌∙◌}
use Rattle.std.proofs.lemmas.List.{map_more}
use Rattle.fvn_rewrite.specs.inner.SortedTerms.{sort_of}
use Rattle.fvn_rewrite.proofs.shared.sorts_of.Goals as goal

pub loop-t-preserved : goal.loop-t-preserved
loop-t-preserved c =
    let ts = c.args.ts.now in
    let i = c.loop-t.t-index in
    c.in_ok-push.ensures.items
    ∙ ap (λ l. l ++ c.sort.result ∷ []) c.loop-t.invariant
    ∙ ap (λ s. map sort_of (take i ts) ++ s ∷ []) (c.sort.ensures ∙ ap sort_of c.t-item.is)
    ∙ sym (map_more sort_of ts i c.t-item.result c.loop-t-test.true)
