-- The number that stands there, or that of the variable.
use Rattle.std.proofs.Common.{List, ℕ, false, subst}
use Rattle.fvn_terms.specs.declared.plain.Var.{Var}
use Rattle.fvn_weights.specs.inner.Numbers.{found, TellsAbove}
use Rattle.fvn_weights.proofs.FormTests.{found_alike, own_at_most, tells_above}
use Rattle.fvn_weights.proofs.comparing.grows_at.Goals as goal

pub returns-then-not-here : goal.returns-then-not-here
returns-then-not-here c =
    let bound = found c.args.left.now.factors.items in
    subst (λ (l : List (Var × ℕ)). TellsAbove bound l c.args.i false) c.as_slice-factors.ensures.value
    (own_at_most bound c.as_slice-factors.result.now c.args.i _ c.is_smaller-here.result c.number_of-before.result (found_alike c.number_of-before.result c.as_slice.result.now c.args.left.now.factors.items _ c.number_of-before.ensures c.as_slice.ensures.value) c.is_smaller-here.ensures c.if-not-here.true)

pub returns : goal.returns
returns c =
    let bound = found c.args.left.now.factors.items in
    subst (λ (l : List (Var × ℕ)). TellsAbove bound l c.args.i c.is_smaller-smaller.result) c.as_slice-factors.ensures.value
    (tells_above bound c.as_slice-factors.result.now c.args.i _ c.is_smaller-smaller.result c.number_of-before.result c.number_of-after.result (found_alike c.number_of-before.result c.as_slice.result.now c.args.left.now.factors.items _ c.number_of-before.ensures c.as_slice.ensures.value) c.number_of-after.ensures c.is_smaller-smaller.ensures)
