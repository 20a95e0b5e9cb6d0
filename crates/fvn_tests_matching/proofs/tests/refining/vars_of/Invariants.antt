-- The variables so far are bound.
use Rattle.fvn_refine.specs.Refinements.{AreBound}
use Rattle.fvn_tests_matching.proofs.tests.refining.vars_of.Given as goal

abbrev pub invariant-loop-word : goal.invariant-loop-word
invariant-loop-word l = AreBound l.sig l.all.items l.s
