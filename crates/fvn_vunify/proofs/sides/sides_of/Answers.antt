-- What is known of the sides in turn.
use Rattle.std.proofs.Common.{◌≤◌, length, sym, ap, ◌∙◌, subst}
use Rattle.fvn_vunify.specs.Sides.{sides_in_turn, FitAsSides}
use Rattle.fvn_vunify.proofs.InTurn.{sides_fit, some_side}
use Rattle.fvn_vunify.proofs.sides.sides_of.Goals as goal

pub returns-clause-exact : goal.returns-clause-exact
returns-clause-exact c = c.in_ok-sides.ensures ∙ ap sides_in_turn c.into_vec.ensures

pub returns-clause-fit : goal.returns-clause-fit
returns-clause-fit c = subst (FitAsSides c.args.given.pairs) (sym (c.in_ok-sides.ensures ∙ ap sides_in_turn c.into_vec.ensures)) (sides_fit c.args.given.pairs)

pub returns-clause-some : goal.returns-clause-some
returns-clause-some c = λ l. subst (λ ts. 1 ≤ length ts) (sym (c.in_ok-sides.ensures ∙ ap sides_in_turn c.into_vec.ensures)) (some_side c.args.given.pairs l)
