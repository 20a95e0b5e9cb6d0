-- One more mark.
use Rattle.std.proofs.Common.{◌≡◌, ℕ, List, ◌+◌, ◌<◌, length, get_or, sym, ap, ◌∙◌, subst, refl, arith, All}
use Rattle.fvn_combine_candidates.specs.inner.Alive.{AreKnownApart}
use Rattle.fvn_combine_candidates.proofs.Living.{AreMarksBelow, no_marks, one_marked, one_unmarked}
use Rattle.fvn_combine_candidates.proofs.alive.row_beside.Goals as goal

pub loop-j-init : goal.loop-j-init
loop-j-init c =
    subst (AreMarksBelow c.args.state.now c.args.heads.now c.args.sums.now c.args.k 0) (sym c.new-marks.ensures.items)
    (no_marks c.args.state.now c.args.heads.now c.args.sums.now c.args.k)

pub are_known_apart-requires-clause-right : goal.are_known_apart-requires-clause-right
are_known_apart-requires-clause-right c =
    subst (λ xs. All (λ n. n < length c.args.state.now.names) xs) (sym c.as_slice-columns.ensures) c.requires.within c.loop-j.j 0 c.loop-j-test.true

pub loop-j-preserved-then-are_known_apart : goal.loop-j-preserved-then-are_known_apart
loop-j-preserved-then-are_known_apart c =
    subst (AreMarksBelow c.args.state.now c.args.heads.now c.args.sums.now c.args.k (c.loop-j.j + 1)) (sym c.in_ok-push.ensures.items)
    (one_marked c.args.state.now c.args.heads.now c.args.sums.now c.args.k c.loop-j.j c.loop-j.marks.items
    (subst (λ xs. AreKnownApart c.args.state.now c.args.heads.now c.args.sums.now.operator c.args.k (get_or xs c.loop-j.j 0)) c.as_slice-columns.ensures (c.if-are_known_apart.ensures refl)) c.loop-j.invariant)

pub loop-j-preserved : goal.loop-j-preserved
loop-j-preserved c =
    subst (AreMarksBelow c.args.state.now c.args.heads.now c.args.sums.now c.args.k (c.loop-j.j + 1)) (sym c.in_ok-push-2.ensures.items)
    (one_unmarked c.args.state.now c.args.heads.now c.args.sums.now c.args.k c.loop-j.j c.loop-j.marks.items c.loop-j.invariant)

pub returns-clause-marking : goal.returns-clause-marking
returns-clause-marking c =
    let same = ap length c.as_slice-columns.ensures in
    let over = c.loop-j-test.false in
    let under = c.loop-j.auto.j-end in
    let all : c.loop-j.j ≡ length c.args.sums.now.columns = omega (arith, same, over, under) in
    let h = c.loop-j.invariant in
    rw c.from_vec.ensures (record { sized = h.sized ∙ all; marks = h.marks })

pub returns-clause-apart : goal.returns-clause-apart
returns-clause-apart c =
    let same = ap length c.as_slice-columns.ensures in
    let over = c.loop-j-test.false in
    let h = c.loop-j.invariant in
    rw c.from_vec.ensures (λ j l one. h.apart j (omega (arith, l, over, same)) one)
