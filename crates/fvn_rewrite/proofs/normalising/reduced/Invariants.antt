-- As many steps as are used up.
use Rattle.std.proofs.Common.{◌≡◌, ◌+◌, ℕ}
use Rattle.fvn_theory.specs.Equations.{equations_of}
use Rattle.fvn_rewrite_laws.specs.Normalised.{IsReached}
use Rattle.fvn_rewrite.proofs.normalising.reduced.Given as goal

abbrev pub decreases-loop-reached : goal.decreases-loop-reached
decreases-loop-reached l = l.left

abbrev pub invariant-loop-reached : goal.invariant-loop-reached
invariant-loop-reached l = (count : ℕ) × (count + l.left ≡ l.bounds.steps) × IsReached l.sig (equations_of l.rules.equations) count l.t l.reached
