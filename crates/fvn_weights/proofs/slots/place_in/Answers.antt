-- The slot has variables, or not.
use Rattle.std.proofs.Common.{sym, ap, ◌∙◌}
use Rattle.fvn_weights.specs.inner.Numbers.{slot_place}
use Rattle.fvn_weights.proofs.Starting.{placed_nowhere}
use Rattle.fvn_weights.proofs.slots.place_in.Goals as goal

pub place_from-requires : goal.place_from-requires
place_from-requires c = ap (slot_place c.args.factors.now) (sym c.slot_of-s.ensures.exact) ∙ sym c.first_in.ensures ∙ c.in-Some.is

pub returns-in-Some : goal.returns-in-Some
returns-in-Some c = c.place_from.ensures

pub returns-in-None : goal.returns-in-None
returns-in-None c = sym (placed_nowhere c.args.x c.args.factors.now (ap (slot_place c.args.factors.now) (sym c.slot_of-s.ensures.exact) ∙ sym c.first_in.ensures ∙ c.in-None.is))
