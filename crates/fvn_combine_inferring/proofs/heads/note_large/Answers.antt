-- One more class.
use Rattle.std.proofs.Common.{◌<◌, length, set, sym, ap, ◌∙◌, subst, arith, Some, refl}
use Rattle.fvn_combine_nodes.specs.States.{class_of}
use Rattle.fvn_combine_inferring.specs.inner.Bounds.{HasTwoSummands}
use Rattle.fvn_combine_inferring.proofs.Values.{name_within}
use Rattle.fvn_combine_inferring.proofs.HeadsTold.{more_heads, large_joined}
use Rattle.fvn_combine_inferring.proofs.heads.note_large.Goals as goal
use Rattle.fvn_combine_inferring.specs.Inferred.{TellHeads}

pub addition_of-requires-clause-heads : goal.addition_of-requires-clause-heads
addition_of-requires-clause-heads c = c.requires.heads.as_many

pub loop-i-init : goal.loop-i-init
loop-i-init c = record { heads = c.requires.heads; sorted = refl }

pub loop-i-preserved : goal.loop-i-preserved
loop-i-preserved c =
    let d = c.args.sig.now in
    let t = c.args.table.now in
    let s = c.args.state.now in
    let sorted = c.loop-i.known.sorted in
    let heads = c.loop-i.known.heads.items in
    let i = c.loop-i.i in
    let l : i < length t.nodes = subst (λ ns. i < length ns) c.nodes-i-end.ensures c.loop-i-test.true in
    let w = name_within d t s c.requires.closed i l in
    let n = c.loop-i.invariant.heads.as_many in
    record {
      heads =
          subst (TellHeads d t s sorted) (sym (c.note_head.ensures ∙ ap (λ k. set heads k (Some c.args.f)) c.class_of-in-loop-i.ensures))
          (more_heads d t s sorted heads (class_of s i) c.args.f (omega (arith, w, n)) c.loop-i.invariant.heads (large_joined d t s sorted c.args.f i (subst (λ g. HasTwoSummands d t s sorted g i) c.in_ok-addition.ensures.operator (c.in_ok-is_large.ensures c.if-not-branch.false))));
      sorted = c.loop-i.invariant.sorted;
    }

pub returns : goal.returns
returns c = c.loop-i.invariant
