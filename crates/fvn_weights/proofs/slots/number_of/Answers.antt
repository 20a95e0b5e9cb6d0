-- The number of a variable.
use Rattle.std.proofs.Common.{sym, ◌∙◌, arith}
use Rattle.fvn_weights.proofs.Placing.{placed_within, placed_number, unplaced_number}
use Rattle.fvn_weights.proofs.slots.number_of.Goals as goal

pub bounds-factors-i : goal.bounds-factors-i
bounds-factors-i c = placed_within c.args.x c.args.factors.now c.in-Some.i (sym c.place_in.ensures ∙ c.in-Some.is)

pub offset_bounds-factors-i : goal.offset_bounds-factors-i
offset_bounds-factors-i c = let h = placed_within c.args.x c.args.factors.now c.in-Some.i (sym c.place_in.ensures ∙ c.in-Some.is) in omega (arith, h)

pub returns-in-Some : goal.returns-in-Some
returns-in-Some c = sym (placed_number c.args.x c.args.factors.now c.in-Some.i _ (sym c.place_in.ensures ∙ c.in-Some.is))

pub returns-in-None : goal.returns-in-None
returns-in-None c = sym (unplaced_number c.args.x c.args.factors.now (sym c.place_in.ensures ∙ c.in-None.is))
