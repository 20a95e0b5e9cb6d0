-- The variables of the pairs so far.
use Rattle.std.proofs.Common.{◌≡◌, [], take}
use Rattle.fvn_axunify.specs.inner.Asked.{with_pairs}
use Rattle.fvn_axunify.proofs.problem.variables_of_pairs.Given as goal

abbrev pub invariant-loop-left : goal.invariant-loop-left
invariant-loop-left l = l.vars.items ≡ with_pairs (take l.left-index l.pairs) []
