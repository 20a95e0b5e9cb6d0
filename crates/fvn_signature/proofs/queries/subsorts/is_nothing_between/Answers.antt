-- Nothing is between, with one sort more.
use Rattle.std.proofs.Common.{◌&&◌, not, sym, ap, ◌∙◌}
use Rattle.fvn_terms.specs.declared.plain.SortId.{SortId}
use Rattle.fvn_signature.specs.Queries.{is_below}
use Rattle.fvn_signature.proofs.FirstSorts.{all_from-true}
use Rattle.fvn_signature.proofs.queries.subsorts.is_nothing_between.Goals as goal

pub loop-q-preserved : goal.loop-q-preserved
loop-q-preserved c =
    let d = c.args.draft.now.declarations in
    c.loop-q.invariant ∙ all_from-true (λ (q : SortId). not (is_below d c.args.t q && is_below d q c.args.s)) c.loop-q.q d.sorts c.loop-q-test.true (ap not (sym c.if-stands_between.ensures))
