-- Each wheel passed shows its greatest choice.
use Rattle.std.proofs.Common.{ℕ, ◌<◌, ◌≤◌, ◌≢◌, length, map, get_or, sym, refl, ◌∙◌, subst, arith}
use Rattle.std.proofs.lemmas.List.{get_or-set_other, length-set, length-map}
use Rattle.std.proofs.Math.Seq.{map-set_same}
use Rattle.fvn_acunify_product.specs.Wheels.{IsChoice, Wheel, wheel_of}
use Rattle.fvn_acunify_product.proofs.Stepping.{tops_more}
use Rattle.fvn_acunify_product.proofs.WheelSteps.{wheel_at, stand_more}
use Rattle.fvn_acunify_product.proofs.turning.restart.Goals as goal

pub returns-in-None-clause-same : goal.returns-in-None-clause-same
returns-in-None-clause-same c =
    map-set_same wheel_of c.loop-place.wheels c.loop-place.place c.greatest_choice.new.wheel c.index-wheels-place.result c.in-None.ensures.same ∙ c.loop-place.invariant.same

pub returns-in-None-clause-bare : goal.returns-in-None-clause-bare
returns-in-None-clause-bare c = λ _.
    let inv = c.loop-place.invariant in
    let p = c.loop-place.place in
    let within : p < length c.loop-place.wheels = omega (arith, inv.sized, c.loop-place-test.true) in (
      p,
      inv.from,
      c.loop-place-test.true,
      λ d a may.
          c.in-None.ensures.none refl a
          (subst (λ w. IsChoice w a) (wheel_at c.loop-place.wheels p _ c.index-wheels-place.result within refl d)
          (subst (λ ws. IsChoice (get_or ws p d) a) (sym inv.same) may)),
    )

pub loop-place-preserved : goal.loop-place-preserved
loop-place-preserved c =
    let inv = c.loop-place.invariant in
    let p = c.loop-place.place in
    let w = c.greatest_choice.new.wheel in
    let n = c.in-Some.number in
    let within : p < length c.loop-place.wheels = omega (arith, inv.sized, c.loop-place-test.true) in
    let numbered : p < length c.loop-place.numbers = omega (arith, inv.numbered, c.requires.sized, c.loop-place-test.true) in
    let top : (d : Wheel) → IsChoice (get_or (map wheel_of c.args.wheels.now) p d) n × ((a : ℕ) → IsChoice (get_or (map wheel_of c.args.wheels.now) p d) a → a ≤ n)
    = λ d. (
    subst (λ ws. IsChoice (get_or ws p d) n × ((a : ℕ) → IsChoice (get_or ws p d) a → a ≤ n)) inv.same
    (subst (λ v. IsChoice v n × ((a : ℕ) → IsChoice v a → a ≤ n)) (sym (wheel_at c.loop-place.wheels p _ c.index-wheels-place.result within refl d))
    (c.in-Some.ensures.valid, c.in-Some.ensures.greatest))) in
    record {
      from = omega (arith, inv.from);
      sized = length-set c.loop-place.wheels p w ∙ inv.sized;
      numbered = length-set c.loop-place.numbers p n ∙ inv.numbered;
      same = map-set_same wheel_of c.loop-place.wheels p w c.index-wheels-place.result c.in-Some.ensures.same ∙ inv.same;
      front = λ k x h. (let other : k ≢ p = omega (arith, inv.from) in get_or-set_other c.loop-place.wheels p k w x other ∙ inv.front k x h);
      numbers = λ k h. (let other : k ≢ p = omega (arith, inv.from) in get_or-set_other c.loop-place.numbers p k n 0 other ∙ inv.numbers k h);
      stands = stand_more c.loop-place.wheels c.loop-place.numbers c.args.from p w n within numbered c.in-Some.ensures.standing inv.stands;
      tops = tops_more IsChoice (map wheel_of c.args.wheels.now) c.loop-place.numbers c.args.from p n numbered inv.tops top;
    }

pub returns-clause-restarted : goal.returns-clause-restarted
returns-clause-restarted c = λ _. record {
  front = c.loop-place.invariant.numbers;
  tops = λ k f l. c.loop-place.invariant.tops k f (omega (arith, l, length-map c.args.wheels.now wheel_of, c.loop-place-test.false, c.loop-place.invariant.sized));
}
