-- The node faces no variable so far.
use Rattle.std.proofs.Common.{ℕ, ◌<◌}
use Rattle.fvn_purify.specs.Theories.{IsVariable, AreOpposite}
use Rattle.fvn_purify.proofs.standing.faces_variable.Given as goal

abbrev pub invariant-loop-j : goal.invariant-loop-j
invariant-loop-j l = (j : ℕ) → j < l.j → IsVariable l.table j → AreOpposite l.table l.i j → ⊥
