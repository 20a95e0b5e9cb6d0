-- What is left of the rules so far.
use Rattle.std.proofs.Common.{take}
use Rattle.fvn_rewrite_rules.specs.inner.Heads.{AreLeft}
use Rattle.fvn_rewrite_rules.proofs.heads.without_instances.Given as goal

abbrev pub invariant-loop-rule : goal.invariant-loop-rule
invariant-loop-rule l = AreLeft l.sig l.general (take l.rule-index l.rules) l.all.items
