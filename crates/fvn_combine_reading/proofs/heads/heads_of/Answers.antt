-- One more node.
use Rattle.std.proofs.Common.{◌+◌, ◌<◌, ◌≤◌, length, sym, ap, ◌∙◌, subst, arith}
use Rattle.fvn_combine_nodes.specs.States.{IsOpen, class_of}
use Rattle.std.proofs.lemmas.Option.{slice_get_within}
use Rattle.fvn_combine_nodes.specs.declared.table.Node.TheVariants.{App}
use Rattle.fvn_combine_nodes.proofs.Admitting.{named_within}
use Rattle.fvn_combine_reading.specs.inner.Reading.{noted, AreHeadsBelow}
use Rattle.fvn_combine_reading.proofs.Heading.{more_heads, heads_are}
use Rattle.fvn_combine_reading.proofs.heads.heads_of.Goals as goal

pub loop-i-preserved : goal.loop-i-preserved
loop-i-preserved c =
    let d = c.args.sig.now in
    let t = c.args.table.now in
    let s = c.args.state.now in
    let i = c.loop-i.i in
    let heads = c.loop-i.heads.items in
    let o = c.own_head-head.result in
    let l : i < length t.nodes = subst (λ ns. i < length ns) c.nodes-count.ensures c.loop-i-test.true in
    let w = c.requires.closed.whole in
    let n = named_within s c.requires.closed.naming i (omega (arith, l, w)) in
    let within : class_of s i < length t.nodes = omega (arith, n, w) in
    subst (AreHeadsBelow d t (class_of s) (i + 1)) (sym (c.note.ensures ∙ ap (λ k. noted heads k o) c.class_of.ensures))
    (more_heads d t (class_of s) (IsOpen s) c.requires.closed.partition i heads within c.loop-i.invariant o c.own_head-head.ensures)

pub returns : goal.returns
returns c =
    let d = c.args.sig.now in
    let t = c.args.table.now in
    let s = c.args.state.now in
    let all : length t.nodes ≤ c.loop-i.i = subst (λ ns. length ns ≤ c.loop-i.i) c.nodes-count.ensures c.loop-i-test.false in
    heads_are d t (class_of s) (IsOpen s) c.requires.closed.partition c.loop-i.i c.loop-i.heads.items all (λ i f ks over. slice_get_within t.nodes i (App f ks) over) c.loop-i.invariant
