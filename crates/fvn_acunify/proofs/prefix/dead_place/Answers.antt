-- A place where the walk stops is dead; where it comes to its end the number is valid.
use Rattle.std.proofs.Common.{◌≡◌, ℕ, ◌+◌, ◌-◌, ◌≤◌, [], length, take, slice_index, ap, ◌∙◌, subst, arith}
use Rattle.std.proofs.lemmas.Bool.{iff_false}
use Rattle.std.proofs.lemmas.List.{take_all}
use Rattle.fvn_acunify.specs.inner.Prefix.{IsOpen}
use Rattle.fvn_acunify.proofs.Prefixes.{IsWalked, IsWalked-start, IsWalked-taken, IsWalked-skipped, dead-from_closed, dead-from_two, dead-from_missing, full-from_taken, full-from_skipped, IsFullFrom, listed-from_open, open-on, part-le, get_or-zeros}
use Rattle.fvn_acunify.proofs.prefix.dead_place.Goals as goal
use Rattle.fvn_acunify.proofs.prefix.dead_place.Goals.{After-is_open-in-loop-place, then-number-place-eq1+else-uses_two, else-number-place-eq1+else-is_asked}

pub returns-then-not-is_open-clause-dead : goal.returns-then-not-is_open-clause-dead
returns-then-not-is_open-clause-dead c =
    let basis = c.args.basis.now in
    let sums = c.fill.new.self in
    let zeros : (j : ℕ) → slice_index sums j ≡ 0 = λ j. ap (λ l. slice_index l j) (c.fill.ensures.after (λ y h. h)) ∙ get_or-zeros _ j in
    let walked = IsWalked-start c.args.constants.now basis c.args.number sums c.requires.bounded.few zeros in
    dead-from_closed c.args.full.now c.args.constants.now c.args.may_be_zero.now c.args.bounds.now basis c.args.number (length basis) sums [] walked
    (λ all_open. iff_false c.is_open.ensures c.if-not-is_open.true
    (subst (λ l. IsOpen [] c.args.constants.now c.args.may_be_zero.now c.args.bounds.now l sums) (take_all (length basis) basis (omega arith)) all_open))

pub returns-then-uses_two-clause-dead : goal.returns-then-uses_two-clause-dead
returns-then-uses_two-clause-dead c =
    dead-from_two c.args.full.now c.args.constants.now c.args.may_be_zero.now c.args.bounds.now c.args.basis.now c.args.number (c.loop-place.place - 1) c.as_slice-parts.result.now c.index-basis-place.result
    (omega (arith, c.loop-place.invariant.walked.inside)) c.if-number-place-eq1.true c.as_slice-parts.ensures (c.uses_two.ensures.0 c.if-uses_two.true)

-- one place further down, with the solution there taken or skipped
walked_on : (c : After-is_open-in-loop-place) → IsWalked c.args.constants.now c.args.basis.now c.args.number (c.loop-place.place - 1) c.if-number-place-eq1.sums
walked_on c =
    let constants = c.args.constants.now in
    let basis = c.args.basis.now in
    let p = c.loop-place.place - 1 in
    let before = c.loop-place.invariant.walked in
    let e : p + 1 ≡ c.loop-place.place = omega arith in
    elim c.if-number-place-eq1.branch [
      | then-number-place-eq1+else-uses_two w ↦
          rw w.sums-is (IsWalked-taken constants basis c.args.number c.loop-place.place p c.loop-place.sums w.add.new.sums c.as_slice-parts.result.now c.index-basis-place.result e
          w.if-number-place-eq1.true c.as_slice-parts.ensures (iff_false w.uses_two.ensures w.if-uses_two.false)
          (part-le _ constants basis c.requires.bounded p c.index-basis-place.result c.as_slice-parts.result.now (omega (arith, before.inside)) c.as_slice-parts.ensures) w.add.ensures before)
      | else-number-place-eq1+else-is_asked w ↦
          rw w.sums-is (IsWalked-skipped constants basis c.args.number c.loop-place.place p c.loop-place.sums e w.if-number-place-eq1.false before)
    ]

full_on : (c : After-is_open-in-loop-place) → IsFullFrom c.args.full.now c.args.constants.now c.args.basis.now c.args.number (c.loop-place.place - 1)
full_on c =
    let p = c.loop-place.place - 1 in
    let e : p + 1 ≡ c.loop-place.place = omega arith in
    elim c.if-number-place-eq1.branch [
      | then-number-place-eq1+else-uses_two w ↦
          full-from_taken c.args.full.now c.args.constants.now c.args.basis.now c.args.number c.loop-place.place p e w.if-number-place-eq1.true c.loop-place.invariant.full_from
      | else-number-place-eq1+else-is_asked w ↦
          full-from_skipped c.args.full.now c.args.constants.now c.args.basis.now c.args.number c.loop-place.place p c.as_slice-parts.result.now c.index-basis-place.result e
          (omega (arith, c.loop-place.invariant.walked.inside)) c.as_slice-parts.ensures (iff_false w.is_asked.ensures w.if-is_asked.false) c.loop-place.invariant.full_from
    ]

-- no sum is less one place further down
sums_on : (c : After-is_open-in-loop-place) → (j : ℕ) → slice_index c.loop-place.sums j ≤ slice_index c.if-number-place-eq1.sums j
sums_on c j =
    elim c.if-number-place-eq1.branch [
      | then-number-place-eq1+else-uses_two w ↦ rw w.sums-is (omega (arith, w.add.ensures j))
      | else-number-place-eq1+else-is_asked w ↦ rw w.sums-is (omega arith)
    ]

pub returns-then-is_asked-clause-dead : goal.returns-then-is_asked-clause-dead
returns-then-is_asked-clause-dead c =
    let asked = c.is_asked.ensures.0 c.if-is_asked.true in
    dead-from_missing c.args.full.now c.args.constants.now c.args.may_be_zero.now c.args.bounds.now c.args.basis.now c.args.number (c.loop-place.place - 1) c.as_slice-parts.result.now c.index-basis-place.result
    (omega (arith, c.loop-place.invariant.walked.inside)) c.if-number-place-eq1.false c.as_slice-parts.ensures asked

pub returns-then-not-is_open-2-clause-dead : goal.returns-then-not-is_open-2-clause-dead
returns-then-not-is_open-2-clause-dead c =
    dead-from_closed c.args.full.now c.args.constants.now c.args.may_be_zero.now c.args.bounds.now c.args.basis.now c.args.number (c.loop-place.place - 1) c.if-number-place-eq1.sums c.as_slice-parts.result.now
    (walked_on (goal.at.returns-then-not-is_open-2-clause-dead c).After-is_open-in-loop-place) (iff_false c.is_open-in-loop-place.ensures c.if-not-is_open-2.true)

pub loop-place-preserved : goal.loop-place-preserved
loop-place-preserved c = record {
  walked = walked_on (goal.at.loop-place-preserved c).After-is_open-in-loop-place;
  full_from = full_on (goal.at.loop-place-preserved c).After-is_open-in-loop-place;
  all_open = open-on c.args.constants.now c.args.may_be_zero.now c.args.bounds.now c.args.basis.now c.loop-place.place (c.loop-place.place - 1) c.loop-place.sums c.if-number-place-eq1.sums c.as_slice-parts.result.now c.index-basis-place.result
      (omega arith) (omega (arith, c.loop-place.invariant.walked.inside)) c.as_slice-parts.ensures (sums_on (goal.at.loop-place-preserved c).After-is_open-in-loop-place)
      c.loop-place.invariant.all_open (c.is_open-in-loop-place.ensures.0 c.if-not-is_open-2.false);
}

pub returns-clause-listed : goal.returns-clause-listed
returns-clause-listed c =
    let e : c.loop-place.place ≡ 0 = omega arith in
    let constants = c.args.constants.now in
    let basis = c.args.basis.now in
    listed-from_open c.args.full.now constants c.args.may_be_zero.now c.args.bounds.now basis c.args.number c.loop-place.sums
    (subst (λ p. IsWalked constants basis c.args.number p c.loop-place.sums) e c.loop-place.invariant.walked)
    (subst (λ p. IsOpen [] constants c.args.may_be_zero.now c.args.bounds.now (take p basis) c.loop-place.sums) e c.loop-place.invariant.all_open)
    (subst (λ p. IsFullFrom c.args.full.now constants basis c.args.number p) e c.loop-place.invariant.full_from)
    c.requires.within
