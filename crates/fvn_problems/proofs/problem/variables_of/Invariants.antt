-- The pairs that are left decide.
use Rattle.std.proofs.Common.{◌≡◌, [], drop}
use Rattle.fvn_problems.specs.Variables.{with_sides}
use Rattle.fvn_problems.proofs.problem.variables_of.Given as goal

-- the pairs that are left decide
abbrev pub invariant-loop-left : goal.invariant-loop-left
invariant-loop-left l = with_sides [] l.pairs ≡ with_sides l.vars.items (drop l.left-index l.pairs)
