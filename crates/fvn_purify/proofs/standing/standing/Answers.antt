-- One more node.
use Rattle.std.proofs.Common.{length, ap, arith, below_more}
use Rattle.std.proofs.lemmas.Option.{slice_get_within}
use Rattle.fvn_terms.specs.declared.plain.OpId.{OpId}
use Rattle.fvn_combine_nodes.specs.declared.table.Node.TheVariants.{App}
use Rattle.fvn_purify.specs.inner.Standing.{StandsUnderAt}
use Rattle.fvn_purify.proofs.standing.standing.Goals as goal

pub loop-j-preserved : goal.loop-j-preserved
loop-j-preserved c = below_more (λ j. (f : OpId) → StandsUnderAt c.args.table.now c.args.i j f → ⊥) c.loop-j.j c.loop-j.invariant c.in-None.ensures

pub returns : goal.returns
returns c f h =
    let end = c.loop-j-test.false in
    let n = ap length c.nodes-j-end.ensures in
    let l = slice_get_within c.args.table.now.nodes h.headed (App f h.arguments) h.is in
    c.loop-j.invariant h.headed (omega arith) f (h.arguments, h.is, h.stands)
