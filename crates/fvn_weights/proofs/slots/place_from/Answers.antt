-- The first of the slot is the variable, or all are looked at.
use Rattle.std.proofs.Common.{sym, ◌∙◌, arith}
use Rattle.fvn_weights.specs.inner.Numbers.{slot}
use Rattle.fvn_weights.proofs.Starting.{first_below, placed_first}
use Rattle.fvn_weights.proofs.slots.place_from.Goals as goal

pub bounds-factors-i : goal.bounds-factors-i
bounds-factors-i c = first_below (slot c.args.x) c.args.factors.now c.args.i c.requires

pub offset_bounds-factors-i : goal.offset_bounds-factors-i
offset_bounds-factors-i c = let h = first_below (slot c.args.x) c.args.factors.now c.args.i c.requires in omega (arith, h)

pub returns-then-here : goal.returns-then-here
returns-then-here c = sym (placed_first c.args.x c.args.factors.now c.args.i _ c.requires (sym c.is_same-here.ensures ∙ c.if-here.true))

pub returns : goal.returns
returns c = c.place_of-other.ensures
