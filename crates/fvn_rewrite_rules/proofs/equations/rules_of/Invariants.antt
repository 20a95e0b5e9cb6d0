-- The rules of the equations so far.
use Rattle.fvn_rewrite_rules.specs.inner.Collecting.{AreRulesUpTo}
use Rattle.fvn_rewrite_rules.proofs.equations.rules_of.Given as goal

abbrev pub invariant-loop-i : goal.invariant-loop-i
invariant-loop-i l = AreRulesUpTo l.sig l.equations l.i l.all.items
