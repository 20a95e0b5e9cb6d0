-- One more node.
use Rattle.std.proofs.Common.{◌<◌, length, sym, ap, ◌∙◌, subst, arith}
use Rattle.fvn_combine_nodes.specs.States.{class_of}
use Rattle.fvn_combine_bounds.specs.Narrow.{IsNeverIdentity}
use Rattle.fvn_combine_inferring.specs.inner.Bounds.{AreMarks, marked}
use Rattle.fvn_combine_inferring.proofs.Values.{name_within}
use Rattle.fvn_combine_inferring.proofs.Marks.{more_marked}
use Rattle.fvn_combine_inferring.proofs.sorts.mark_other.Goals as goal

pub loop-i-preserved : goal.loop-i-preserved
loop-i-preserved c =
    let t = c.args.table.now in
    let s = c.args.state.now in
    let P = IsNeverIdentity c.args.sig.now t (class_of s) c.args.f in
    let marks = c.loop-i.marks.items in
    let i = c.loop-i.i in
    let is = c.is_other_node-is.result in
    let l : i < length t.nodes = subst (λ ns. i < length ns) c.nodes-i-end.ensures c.loop-i-test.true in
    let w = name_within c.args.sig.now t s c.requires.closed i l in
    let n = c.loop-i.invariant.as_many in
    subst (AreMarks (length t.nodes) P) (sym (c.mark.ensures ∙ ap (λ k. marked marks k is) c.class_of.ensures))
    (more_marked (length t.nodes) P marks (class_of s i) is (omega (arith, w, n)) c.is_other_node-is.ensures c.loop-i.invariant)
