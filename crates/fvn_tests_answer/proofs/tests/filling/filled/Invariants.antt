-- the variables so far have the forms of their values
use Rattle.std.proofs.Common.{◌≡◌, take}
use Rattle.fvn_tests_answer.proofs.Filling.{forms}
use Rattle.fvn_tests_answer.proofs.tests.filling.filled.Given as goal

abbrev pub invariant-loop-x : goal.invariant-loop-x
invariant-loop-x l = l.subst ≡ forms l.signature l.bindings.subst.pairs (take l.x-index l.x-items)
