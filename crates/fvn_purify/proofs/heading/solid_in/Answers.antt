-- One more node.
use Rattle.std.proofs.Common.{length, ap, arith, below_more}
use Rattle.std.proofs.lemmas.Option.{slice_get_within}
use Rattle.fvn_combine_nodes.specs.States.{class_of}
use Rattle.fvn_combine_nodes.specs.declared.table.Node.TheVariants.{App}
use Rattle.fvn_purify.specs.declared.classes.Head.{Head}
use Rattle.fvn_purify.specs.inner.Options.{IsSolidAt}
use Rattle.fvn_purify.proofs.heading.solid_in.Goals as goal

pub loop-j-preserved : goal.loop-j-preserved
loop-j-preserved c = below_more (λ j. (h : Head) → IsSolidAt c.args.sig.now c.args.table.now (class_of c.args.state.now) c.args.i j h → ⊥) c.loop-j.j c.loop-j.invariant c.in-None.ensures

pub returns : goal.returns
returns c j h k =
    let end = c.loop-j-test.false in
    let n = ap length c.nodes-j-end.ensures in
    let l = slice_get_within c.args.table.now.nodes j (App k.0 k.1) k.2 in
    c.loop-j.invariant j (omega arith) h k
