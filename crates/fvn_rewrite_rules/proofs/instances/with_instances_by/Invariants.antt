-- The instances so far.
use Rattle.std.proofs.Common.{◌≡◌, ◌++◌, map, take}
use Rattle.fvn_rewrite_rules.specs.inner.Making.{instance_by}
use Rattle.fvn_rewrite_rules.proofs.instances.with_instances_by.Given as goal

abbrev pub invariant-loop-rule : goal.invariant-loop-rule
invariant-loop-rule l = l.all.items ≡ l.initial.all.items ++ map (instance_by l.sig l.s) (take l.rule-index l.rules)
