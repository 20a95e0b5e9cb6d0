-- What is needed of the rules so far.
use Rattle.std.proofs.Common.{take}
use Rattle.fvn_rewrite_rules.specs.inner.Heads.{AreNeeded}
use Rattle.fvn_rewrite_rules.proofs.heads.needed_under.Given as goal

abbrev pub invariant-loop-rule : goal.invariant-loop-rule
invariant-loop-rule l = AreNeeded l.sig l.f (take l.rule-index l.rules) l.needed.items
