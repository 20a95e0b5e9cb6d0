-- One instance more.
use Rattle.std.proofs.Common.{◌++◌, [], ◌∷◌, ap, ◌∙◌}
use Rattle.fvn_rewrite_rules.specs.inner.Making.{IsKindedRule, instance_by}
use Rattle.fvn_rewrite_rules.proofs.Steps.{map-append-step, All-item}
use Rattle.fvn_rewrite_rules.proofs.instances.with_instances_by.Goals as goal

pub instance_by-requires-clause-rule : goal.instance_by-requires-clause-rule
instance_by-requires-clause-rule c = All-item (IsKindedRule c.args.sig.now) c.args.rules.now c.requires.rules c.loop-rule.rule-index c.rule-item.result c.loop-rule-test.true c.rule-item.is

pub loop-rule-preserved : goal.loop-rule-preserved
loop-rule-preserved c =
    c.in_ok-push.ensures.items
    ∙ ap (λ l. l ++ c.in_ok-instance.instance ∷ []) c.loop-rule.invariant
    ∙ map-append-step (instance_by c.args.sig.now c.args.s.now) c.args.before.items c.args.rules.now c.loop-rule.rule-index c.rule-item.result c.in_ok-instance.instance c.loop-rule-test.true c.rule-item.is c.in_ok-instance.ensures
