-- No variable so far is a fresh one.
use Rattle.std.proofs.Common.{◌≡◌, ◌<◌, ℕ, false, get_or}
use Rattle.fvn_terms.specs.declared.plain.Var.{Var}
use Rattle.fvn_tests_combine.proofs.tests.given.are_named.Given as goal

abbrev pub invariant-loop-x : goal.invariant-loop-x
invariant-loop-x l = (k : ℕ) (d : Var) → k < l.x-index → (get_or l.vars k d).fresh ≡ false
