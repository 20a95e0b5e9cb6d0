-- The coefficients are those of the operator.
use Rattle.std.proofs.Common.{◌≤◌, ◌↔◌, ℕ, List, get_or, subst}
use Rattle.std.specs.Prelude.{IsTrue}
use Rattle.fvn_weights.proofs.fitting.is_positive.Goals as goal

pub returns : goal.returns
returns c = subst (λ (ns : List ℕ). IsTrue c.are_all_positive-positive.result ↔ ((i : ℕ) → 1 ≤ get_or ns i 1)) c.coefficients_of-numbers.ensures c.are_all_positive-positive.ensures
