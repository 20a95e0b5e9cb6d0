-- One extension more, or none.
use Rattle.std.proofs.Common.{[], ◌++◌, List, sym, ap, ◌∙◌}
use Rattle.std.specs.List.{cons_option}
use Rattle.fvn_rewrite_rules.specs.declared.rule.Rule.{Rule}
use Rattle.fvn_rewrite_rules.specs.inner.Making.{IsKindedRule, extension_of}
use Rattle.fvn_rewrite_rules.proofs.Steps.{filter_map-more, All-item}
use Rattle.fvn_rewrite_rules.proofs.extensions.extensions.Goals as goal

pub extension-requires : goal.extension-requires
extension-requires c = All-item (IsKindedRule c.args.sig.now) c.args.rules.now c.requires c.loop-rule.rule-index c.rule-item.result c.loop-rule-test.true c.rule-item.is

pub loop-rule-preserved : goal.loop-rule-preserved
loop-rule-preserved c =
    c.in_ok-all.ensures
    ∙ ap (λ (l : List Rule). l ++ cons_option c.in_ok-wide.wide []) c.loop-rule.invariant
    ∙ sym (filter_map-more (extension_of c.args.sig.now) c.args.rules.now c.loop-rule.rule-index c.rule-item.result c.in_ok-wide.wide c.loop-rule-test.true c.rule-item.is (sym c.in_ok-wide.ensures))
