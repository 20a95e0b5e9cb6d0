-- The pairs so far.
use Rattle.fvn_rewrite_rules.specs.inner.Making.{AreSorted}
use Rattle.fvn_rewrite_rules.proofs.guessing.without_others.Given as goal

abbrev pub invariant-loop-x : goal.invariant-loop-x
invariant-loop-x l = AreSorted l.sig l.s
