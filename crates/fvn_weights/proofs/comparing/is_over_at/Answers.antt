-- The number that stands there, or that of the variable.
use Rattle.std.proofs.Common.{List, ℕ, false, refl, subst}
use Rattle.fvn_terms.specs.declared.plain.Var.{Var}
use Rattle.fvn_weights.specs.declared.limits.TheConstants.{MOST}
use Rattle.fvn_weights.specs.inner.Numbers.{TellsAbove}
use Rattle.fvn_weights.proofs.FormTests.{own_at_most, tells_above}
use Rattle.fvn_weights.proofs.comparing.is_over_at.Goals as goal

pub returns-then-not-here : goal.returns-then-not-here
returns-then-not-here c =
    subst (λ (l : List (Var × ℕ)). TellsAbove (λ x. MOST) l c.args.i false) c.as_slice-factors.ensures.value
    (own_at_most (λ x. MOST) c.as_slice-factors.result.now c.args.i _ c.is_over-here.result MOST refl c.is_over-here.ensures c.if-not-here.true)

pub returns : goal.returns
returns c =
    subst (λ (l : List (Var × ℕ)). TellsAbove (λ x. MOST) l c.args.i c.is_over-over.result) c.as_slice-factors.ensures.value
    (tells_above (λ x. MOST) c.as_slice-factors.result.now c.args.i _ c.is_over-over.result MOST c.number_of-number.result refl c.number_of-number.ensures c.is_over-over.ensures)
