-- One more node.
use Rattle.std.proofs.Common.{◌≡◌, ◌+◌, ◌∙◌, true, false, sym, ap, subst, arith}
use Rattle.fvn_purify.specs.Parts.{IsEach}
use Rattle.fvn_purify.specs.inner.Standing.{IsPairBelow}
use Rattle.fvn_purify.proofs.Listed.{pair_next, pair_skip}
use Rattle.fvn_purify.proofs.listing.add_pairs.Goals.{then-are_pair+in_ok-push, else-are_pair}
use Rattle.fvn_purify.proofs.listing.add_pairs.Goals as goal

pub loop-i-preserved : goal.loop-i-preserved
loop-i-preserved c =
    let d = c.args.sig.now in
    let t = c.args.table.now in
    let i = c.loop-i.i in
    let items = c.loop-i.list.items in
    let each = c.loop-i.invariant in
    elim c.if-are_pair.branch [
      | then-are_pair+in_ok-push w ↦
          subst (IsEach (IsPairBelow d t c.args.j (i + 1))) (sym (ap (λ v. v.items) w.list-is ∙ w.in_ok-push.ensures.items)) (pair_next d t items c.args.j i each (c.are_pair.ensures.0 w.if-are_pair.true))
      | else-are_pair w ↦
          subst (IsEach (IsPairBelow d t c.args.j (i + 1))) (sym (ap (λ v. v.items) w.list-is)) (pair_skip d t items c.args.j i each (λ h. let z : true ≡ false = sym (c.are_pair.ensures.1 h) ∙ w.if-are_pair.false in cc))
    ]

pub returns : goal.returns
returns c =
    let a = c.loop-i-test.false in
    let b = c.loop-i.auto.i-end in
    let e : c.loop-i.i ≡ c.args.j = omega arith in
    subst (λ n. IsEach (IsPairBelow c.args.sig.now c.args.table.now c.args.j n) c.loop-i.list.items) e c.loop-i.invariant
