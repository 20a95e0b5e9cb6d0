-- A move of the last wheel that can, and a start of those after it, give the next list.
use Rattle.std.proofs.Common.{◌+◌, map, refl, sym, ◌∙◌, subst, arith}
use Rattle.std.proofs.lemmas.List.{length-map}
use Rattle.std.proofs.lemmas.Slice.Zip.{AllZip-long}
use Rattle.fvn_acunify_product.specs.Wheels.{IsChoice, wheel_of}
use Rattle.fvn_acunify_product.specs.inner.Steps.{IsBare, IsRestarted}
use Rattle.fvn_acunify_product.proofs.Stepping.{lasts_are_an_end, moved_is_next, bare_has_none}
use Rattle.fvn_acunify_product.proofs.turning.step.Goals as goal

pub move_last-requires-clause-sized : goal.move_last-requires-clause-sized
move_last-requires-clause-sized c = AllZip-long IsChoice _ _ c.requires.choices ∙ length-map c.args.wheels.now wheel_of

pub restart-requires-clause-sized : goal.restart-requires-clause-sized
restart-requires-clause-sized c =
    c.move_last.auto.numbers ∙ AllZip-long IsChoice _ _ c.requires.choices ∙ length-map c.args.wheels.now wheel_of ∙ sym c.move_last.auto.wheels

pub returns-in-None-clause-last : goal.returns-in-None-clause-last
returns-in-None-clause-last c = λ _ x h b.
    lasts_are_an_end IsChoice (map wheel_of c.args.wheels.now) c.args.numbers.now x (AllZip-long IsChoice _ _ c.requires.choices)
    (λ k l. c.in-None.ensures.last refl k (omega (arith, l, length-map c.args.wheels.now wheel_of))) h b

pub returns-in-Some-clause-next : goal.returns-in-Some-clause-next
returns-in-Some-clause-next c = λ found.
    moved_is_next IsChoice (map wheel_of c.args.wheels.now) c.in-Some.place c.args.numbers.now c.move_last.new.numbers c.restart.new.numbers
    (c.restart.auto.numbers ∙ c.move_last.auto.numbers ∙ AllZip-long IsChoice _ _ c.requires.choices)
    c.requires.choices c.in-Some.ensures.moved
    (subst (λ ps. IsRestarted IsChoice ps (c.in-Some.place + 1) c.move_last.new.numbers c.restart.new.numbers) c.in-Some.ensures.same (c.restart.ensures.restarted found))

pub returns-in-Some-clause-last : goal.returns-in-Some-clause-last
returns-in-Some-clause-last c = λ e x h b.
    let bare = c.restart.ensures.bare e in
    absurd (bare_has_none IsChoice (map wheel_of c.args.wheels.now) bare.0
    (omega (arith, bare.2, c.move_last.auto.wheels, length-map c.args.wheels.now wheel_of))
    (subst (λ ps. IsBare IsChoice ps bare.0) c.in-Some.ensures.same bare.3) x h)
