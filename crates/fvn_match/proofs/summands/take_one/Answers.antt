-- one piece is taken, or passed by
use Rattle.std.proofs.Common.{◌∙◌, ◌≡◌, ◌+◌, ◌-◌, ◌<◌, sym, ap, set, length, arith}
use Rattle.std.proofs.lemmas.List.{length-set, get_or_read}
use Rattle.fvn_forms.specs.Order.{same_flat}
use Rattle.fvn_forms.specs.InOrder.{one_if}
use Rattle.fvn_forms.proofs.Order.{same_flat_itself}
use Rattle.fvn_match.specs.inner.Summands.{references}
use Rattle.fvn_match.specs.inner.Tallies.{tally}
use Rattle.fvn_match.proofs.Runs.{references-get, length_references}
use Rattle.fvn_match.proofs.Tallies.{tally_less, tally_passed, tally_past}
use Rattle.fvn_match.proofs.summands.take_one.Goals as goal

pub returns-then-is_left : goal.returns-then-is_left
returns-then-is_left c =
    let xs = c.args.pieces.now in
    let long = length_references xs in
    let kept = c.loop-i.invariant.kept in
    let same = ap length kept in
    let taken = c.is_left.ensures.0 c.if-is_left.true in
    let inside : c.loop-i.i < length c.loop-i.left.items = omega (arith, c.requires) in
    let once = get_or_read c.loop-i.left.items c.loop-i.i c.index.result.now inside c.index.ensures 0 in
    let again = get_or_read c.loop-i.left.items c.loop-i.i c.index_mut.result.now inside c.index_mut.ensures.value 0 in
    let some : 0 < c.index_mut.result.now = omega (arith, taken.1) in (
      length-set c.loop-i.left.items c.loop-i.i (c.index_mut.result.now - 1) ∙ same,
      λ q.
          ap (λ v. tally q (references xs) (set c.loop-i.left.items c.loop-i.i (c.index_mut.result.now - 1)) + (one_if (same_flat q v) + 0)) (sym taken.0)
          ∙ tally_less q (references xs) c.loop-i.left.items c.loop-i.i c.index_mut.result.now c.index-pieces-i.result.now (omega (arith, c.requires)) (omega (arith, c.requires)) (references-get xs c.loop-i.i c.index-pieces-i.result (omega arith) c.index-pieces-i.is) c.index_mut.ensures.value some
          ∙ ap (tally q (references xs)) kept,
    )

pub loop-i-preserved : goal.loop-i-preserved
loop-i-preserved c =
    let xs = c.args.pieces.now in
    let long = length_references xs in
    let same = ap length c.loop-i.invariant.kept in
    record {
      kept = c.loop-i.invariant.kept;
      passed = c.loop-i.invariant.passed ∙ tally_passed c.args.u.now (references xs) c.loop-i.left.items c.loop-i.i c.index.result.now c.index-pieces-i.result.now (omega arith) (omega (arith, c.requires)) (references-get xs c.loop-i.i c.index-pieces-i.result (omega arith) c.index-pieces-i.is) c.index.ensures
          (λ p. let e = c.is_left.ensures.1 p in cc);
    }

pub returns : goal.returns
returns c =
    let xs = c.args.pieces.now in
    let long = length_references xs in
    let none : tally c.args.u.now (references xs) c.args.left.now.items ≡ 0 = ap (tally c.args.u.now (references xs)) (sym c.loop-i.invariant.kept) ∙ c.loop-i.invariant.passed ∙ tally_past c.args.u.now (references xs) c.loop-i.left.items c.loop-i.i (omega arith) in
    (c.args.u.now, rw (same_flat_itself c.args.u.now) (omega arith))
