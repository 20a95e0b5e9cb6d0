-- One of the places.
use Rattle.std.proofs.Common.{sym, subst}
use Rattle.std.specs.Prelude.{Contains}
use Rattle.std.proofs.lemmas.List.Elements.{Contains-get_or}
use Rattle.fvn_narrow.specs.declared.placing.Place.{Place}
use Rattle.fvn_narrow.proofs.placing.is_placed.Goals as goal

pub returns-then-has : goal.returns-then-has
returns-then-has c = λ yes.
    let place : Place = c.place-item.result in
    (place, subst (Contains c.args.places.now) (sym c.place-item.is) (Contains-get_or c.args.places.now c.loop-place.place-index place c.loop-place-test.true), c.has_form-has.ensures c.if-has.true)
