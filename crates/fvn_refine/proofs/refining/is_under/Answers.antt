-- The sort beside the variable is the one that the row gives it.
use Rattle.std.proofs.Common.{ap, subst, ◌∙◌}
use Rattle.fvn_terms.specs.Signature.{AtOrBelow}
use Rattle.fvn_refine.specs.inner.Rows.{beside}
use Rattle.fvn_refine.proofs.Ways.{row_long}
use Rattle.fvn_refine.proofs.refining.is_under.Goals as goal

pub beside-here-requires : goal.beside-here-requires
beside-here-requires c = row_long c.args.search.now.sig.now c.args.search.now.vars.now c.args.row.now c.requires

pub returns : goal.returns
returns c = λ t.
    let d = c.args.search.now.sig.now in
    let xs = c.args.search.now.vars.now in
    subst (λ q. AtOrBelow d q c.args.s) (c.beside-here.ensures ∙ ap (beside xs c.args.row.now c.args.y) c.kind-kind.ensures.exact) (c.leq.ensures.0 t)
