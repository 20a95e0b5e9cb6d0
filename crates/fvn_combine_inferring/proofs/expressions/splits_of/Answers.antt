-- One more node.
use Rattle.std.proofs.Common.{◌<◌, length, sym, ap, ◌∙◌, subst, arith}
use Rattle.fvn_combine_nodes.specs.States.{class_of}
use Rattle.fvn_combine_inferring.specs.inner.Splits.{AreSplits, IsUnsplit, noted}
use Rattle.fvn_combine_inferring.proofs.Splitting.{no_splits, more_splits}
use Rattle.fvn_combine_inferring.proofs.Values.{name_within}
use Rattle.fvn_combine_inferring.proofs.expressions.splits_of.Goals as goal

pub loop-i-init : goal.loop-i-init
loop-i-init c = no_splits c.args.table.now c.args.state.now c.args.f c.in_ok-splits.splits.items (subst (λ n. IsUnsplit n c.in_ok-splits.splits.items) (ap length c.nodes-count.ensures) c.in_ok-splits.ensures)

pub loop-i-preserved : goal.loop-i-preserved
loop-i-preserved c =
    let t = c.args.table.now in
    let s = c.args.state.now in
    let f = c.args.f in
    let splits = c.loop-i.splits.items in
    let o = c.own_split-split.result in
    let l : c.loop-i.i < length t.nodes = subst (λ ns. c.loop-i.i < length ns) c.nodes-count.ensures c.loop-i-test.true in
    let w = name_within c.args.sig.now t s c.requires.closed c.loop-i.i l in
    let n = c.loop-i.invariant.as_many in
    subst (AreSplits t s f) (sym (c.note.ensures ∙ ap (λ k. noted splits k o) c.class_of.ensures))
    (more_splits t s f splits (class_of s c.loop-i.i) (omega (arith, w, n)) c.loop-i.invariant o c.own_split-split.ensures)
