-- The row as it is, or with the sort that is asked.
use Rattle.std.proofs.Common.{length, sym, ap, ◌∙◌}
use Rattle.std.proofs.lemmas.Bool.{false≢true}
use Rattle.fvn_refine.specs.inner.Rows.{beside, way_of}
use Rattle.fvn_refine.proofs.Ways.{row_long}
use Rattle.fvn_refine.proofs.Greatest.{place_here, place_lowered}
use Rattle.fvn_refine.proofs.direct.lower_place.Goals as goal

pub beside-here-requires : goal.beside-here-requires
beside-here-requires c = row_long c.args.search.now.sig.now c.args.search.now.vars.now c.args.row.items c.requires ∙ ap length (sym c.as_slice.ensures.value)

pub placed_in-requires : goal.placed_in-requires
placed_in-requires c = row_long c.args.search.now.sig.now c.args.search.now.vars.now c.args.row.items c.requires

pub returns-then-leq : goal.returns-then-leq
returns-then-leq c =
    let d = c.args.search.now.sig.now in
    let xs = c.args.search.now.vars.now in
    place_here d xs c.recall_good.ensures c.args.row.items c.requires c.args.y c.beside-here.result c.args.s
    (c.beside-here.ensures ∙ ap (beside xs c.as_slice.result.now c.args.y) c.kind-kind.ensures.exact ∙ ap (λ w. way_of d xs w c.args.y) c.as_slice.ensures.value)
    (c.leq.ensures.0 c.if-leq.true)

pub returns : goal.returns
returns c =
    let d = c.args.search.now.sig.now in
    let xs = c.args.search.now.vars.now in
    place_lowered d xs c.recall_good.ensures c.args.row.items c.requires c.args.y c.beside-here.result c.args.s
    (c.beside-here.ensures ∙ ap (beside xs c.as_slice.result.now c.args.y) c.kind-kind.ensures.exact ∙ ap (λ w. way_of d xs w c.args.y) c.as_slice.ensures.value)
    c.recall_completed.ensures (λ h. false≢true (sym c.if-leq.false ∙ c.leq.ensures.1 h)) (c.leq-2.ensures.0 c.if-not-leq.false)
    (sym c.is_listed.ensures ∙ c.if-not-is_listed.false) c.placed_in.result.items c.placed_in.ensures
