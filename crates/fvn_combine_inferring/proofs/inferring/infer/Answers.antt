-- Pairs that make a circle hold of no values; else what is told, or what was asked before.
use Rattle.std.proofs.Common.{sym, subst}
use Rattle.std.proofs.lemmas.List.Elements.{All-nil}
use Rattle.fvn_combine_inferring.specs.Inferred.{IsEqualPair, AreEqualPairs}
use Rattle.fvn_combine_inferring.specs.inner.Sizes.{IsSaid, AreSaid, size}
use Rattle.fvn_combine_inferring.proofs.Sizing.{circular_out}
use Rattle.fvn_combine_inferring.proofs.inferring.infer.Goals as goal

pub returns-then-is_circular-clause-is : goal.returns-then-is_circular-clause-is
returns-then-is_circular-clause-is c =
    circular_out c.args.sig.now c.args.table.now c.args.state.now c.args.known.now.sorted c.in_ok-list.list.items c.in_ok-list.ensures
    (λ w h. c.is_circular.ensures c.if-is_circular.true w (subst (AreSaid w) (sym c.as_slice.ensures.value) h))

pub infer_each-requires-clause-pairs : goal.infer_each-requires-clause-pairs
infer_each-requires-clause-pairs c = record {
  insides = c.in_ok-list.ensures;
  held = λ values go. subst (AreSaid (size c.args.state.now values)) (sym c.new-held.ensures.items) (All-nil (IsSaid (size c.args.state.now values)));
  equal =
      subst (AreEqualPairs c.args.sig.now c.args.table.now c.args.state.now c.args.known.now.sorted) (sym c.new-equal.ensures.items)
      (All-nil (IsEqualPair c.args.sig.now c.args.table.now c.args.state.now c.args.known.now.sorted));
}

pub returns-then-branch-clause-is : goal.returns-then-branch-clause-is
returns-then-branch-clause-is c values go =
    let pairs = c.in_ok-told.ensures.pairs in
    c.in_ok-is_held_within.ensures c.if-branch.true (size c.args.state.now values) (pairs.held values go)
    (subst (AreSaid (size c.args.state.now values)) (sym c.as_slice-2.ensures.value) (pairs.insides values go))
