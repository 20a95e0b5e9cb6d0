-- A start of all wheels gives the greatest list.
use Rattle.std.proofs.Common.{map, sym, ◌∙◌, arith}
use Rattle.std.proofs.lemmas.List.{length-map}
use Rattle.fvn_acunify_product.specs.Wheels.{IsChoice, wheel_of}
use Rattle.fvn_acunify_product.proofs.Stepping.{restarted_is_greatest, bare_has_none}
use Rattle.fvn_acunify_product.proofs.turning.first.Goals as goal

pub returns-clause-greatest : goal.returns-clause-greatest
returns-clause-greatest c = λ found.
    restarted_is_greatest IsChoice (map wheel_of c.args.wheels.now) c.args.numbers.now c.restart.new.numbers
    (c.restart.auto.numbers ∙ c.requires ∙ sym (length-map c.args.wheels.now wheel_of))
    (c.restart.ensures.restarted found)

pub returns-clause-none : goal.returns-clause-none
returns-clause-none c = λ e x h.
    let bare = c.restart.ensures.bare e in
    bare_has_none IsChoice (map wheel_of c.args.wheels.now) bare.0 (omega (arith, bare.2, length-map c.args.wheels.now wheel_of)) bare.3 x h
