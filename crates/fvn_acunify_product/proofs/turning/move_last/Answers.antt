-- The last wheel with a next choice is found from behind.
use Rattle.std.proofs.Common.{ℕ, ◌-◌, ◌<◌, ◌≢◌, length, map, ap, sym, ◌∙◌, subst, refl, slice_set, arith}
use Rattle.std.proofs.lemmas.List.{get_or-set_other, length-set, length-map}
use Rattle.std.proofs.Math.Seq.{map-set_same}
use Rattle.fvn_acunify_product.specs.Wheels.{IsChoice, wheel_of}
use Rattle.fvn_acunify_product.specs.inner.Steps.{IsMoved}
use Rattle.fvn_acunify_product.proofs.Stepping.{lasts_more}
use Rattle.fvn_acunify_product.proofs.WheelSteps.{last_here, moved_here}
use Rattle.fvn_acunify_product.proofs.turning.move_last.Goals as goal

pub returns-in-Some-clause-same : goal.returns-in-Some-clause-same
returns-in-Some-clause-same c =
    map-set_same wheel_of c.loop-place.wheels (c.loop-place.place - 1) c.next.new.self c.index-wheels-place.result (ap wheel_of c.in-Some.ensures.taken) ∙ c.loop-place.invariant.same

pub returns-in-Some-clause-moved : goal.returns-in-Some-clause-moved
returns-in-Some-clause-moved c =
    let inv = c.loop-place.invariant in
    let i : ℕ = c.loop-place.place - 1 in
    let within : i < length c.args.wheels.now = omega (arith, inv.within, c.loop-place-test.true) in
    let moved = moved_here c.args.wheels.now c.args.numbers.now i _ c.index-wheels-place.result c.in-Some.number within c.requires.sized
    (inv.front i c.index-wheels-place.result (omega (arith, c.loop-place-test.true))) c.requires.stands c.in-Some.ensures.greatest
    (λ k h w. inv.last k (omega (arith, h)) w) in
    subst (λ ns. IsMoved IsChoice (map wheel_of c.args.wheels.now) i c.args.numbers.now (slice_set ns i c.in-Some.number)) (sym inv.numbers) moved

pub loop-place-preserved : goal.loop-place-preserved
loop-place-preserved c =
    let inv = c.loop-place.invariant in
    let i : ℕ = c.loop-place.place - 1 in
    let within : i < length c.args.wheels.now = omega (arith, inv.within, c.loop-place-test.true) in
    let here = last_here c.args.wheels.now c.args.numbers.now i _ c.index-wheels-place.result within
    (inv.front i c.index-wheels-place.result (omega (arith, c.loop-place-test.true))) c.requires.stands (c.in_default.ensures.exhausted.0 refl) in
    record {
      within = omega (arith, within);
      sized = length-set c.loop-place.wheels i c.next.new.self ∙ inv.sized;
      same = map-set_same wheel_of c.loop-place.wheels i c.next.new.self c.index-wheels-place.result (ap wheel_of c.in_default.ensures.taken) ∙ inv.same;
      front = λ k x h. (let other : k ≢ i = omega arith in get_or-set_other c.loop-place.wheels i k c.next.new.self x other ∙ inv.front k x (omega (arith, h)));
      numbers = inv.numbers;
      last = λ k h w. lasts_more IsChoice (map wheel_of c.args.wheels.now) c.args.numbers.now i c.loop-place.place (omega (arith, c.loop-place-test.true)) here
          (λ j m n. inv.last j m (omega (arith, n, length-map c.args.wheels.now wheel_of))) k h (omega (arith, w, length-map c.args.wheels.now wheel_of));
    }

pub returns-clause-last : goal.returns-clause-last
returns-clause-last c = λ _ k h. c.loop-place.invariant.last k (omega (arith, c.loop-place-test.false)) h
