-- One more class.
use Rattle.std.proofs.Common.{◌≡◌, List, length, map, refl, sym, ap, ◌∙◌, subst, arith}
use Rattle.fvn_combine_nodes.specs.States.{class_of}
use Rattle.fvn_combine_nodes.specs.declared.table.Node.{Node}
use Rattle.fvn_combine_triangular.specs.inner.Planning.{AreClassesBelow}
use Rattle.fvn_combine_triangular.proofs.Bound.{no_classes, class_skip, class_more}
use Rattle.fvn_combine_triangular.proofs.choice.class_bindings.Goals as goal

pub loop-k-init : goal.loop-k-init
loop-k-init c = no_classes c.args.sig.now c.args.table.now (class_of c.args.state.now) c.args.names.now c.args.reading.now.sums (map (λ w. w.items) c.args.shares.now) c.args.binders.now c.in_ok-bindings.bindings.items c.in_ok-bindings.ensures.items

pub loop-k-preserved-then-class_of-k : goal.loop-k-preserved-then-class_of-k
loop-k-preserved-then-class_of-k c = class_skip c.args.sig.now c.args.table.now (class_of c.args.state.now) c.args.names.now c.args.reading.now.sums (map (λ w. w.items) c.args.shares.now) c.args.binders.now c.loop-k.k c.loop-k.bindings.items (λ e. c.if-class_of-k.true (c.class_of.ensures ∙ e)) c.loop-k.invariant

pub loop-k-preserved : goal.loop-k-preserved
loop-k-preserved c =
    class_more c.args.sig.now c.args.table.now (class_of c.args.state.now) c.args.names.now c.args.reading.now.sums (map (λ w. w.items) c.args.shares.now) c.args.binders.now c.loop-k.k c.loop-k.bindings.items c.add_class.new.bindings.items _ c.in_ok-term.term
    c.requires.apart (let t = c.loop-k-test.true in let n = ap (λ (ns : List Node). length ns) c.nodes-k-end.ensures in let m = c.requires.kinded.as_many in omega (arith, t, n, m)) (sym c.class_of.ensures ∙ c.if-class_of-k.false) refl c.in_ok-term.ensures c.in_ok-add_class.ensures c.loop-k.invariant

pub returns : goal.returns
returns c =
    let n = ap (λ (ns : List Node). length ns) c.nodes-k-end.ensures in
    let t = c.loop-k-test.false in
    let a = c.loop-k.auto.k-end in
    let whole : c.loop-k.k ≡ length c.args.table.now.nodes = omega (arith, n, t, a) in
    subst (λ m. AreClassesBelow c.args.sig.now c.args.table.now (class_of c.args.state.now) c.args.names.now c.args.reading.now.sums (map (λ w. w.items) c.args.shares.now) c.args.binders.now m c.loop-k.bindings.items) whole c.loop-k.invariant
