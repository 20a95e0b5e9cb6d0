-- One rule more, an instance or not.
use Rattle.std.proofs.Common.{◌+◌, [], ◌∷◌, ◌++◌, List, take, sym, ap, ◌∙◌, subst}
use Rattle.std.proofs.lemmas.List.{take_all}
use Rattle.fvn_rewrite_rules.specs.declared.rule.Rule.{Rule}
use Rattle.fvn_rewrite_rules.specs.inner.Making.{IsKindedRule}
use Rattle.fvn_rewrite_rules.specs.inner.Heads.{AreLeft}
use Rattle.fvn_rewrite_rules.proofs.Steps.{take-step, All-item}
use Rattle.fvn_rewrite_rules.proofs.Needed.{not_told, none_left, left_more, left_out}
use Rattle.fvn_rewrite_rules.proofs.heads.without_instances.Goals as goal

pub has_instance-requires-clause-other : goal.has_instance-requires-clause-other
has_instance-requires-clause-other c = All-item (IsKindedRule c.args.sig.now) c.args.rules.now c.requires.rules c.loop-rule.rule-index c.rule-item.result c.loop-rule-test.true c.rule-item.is

pub loop-rule-init : goal.loop-rule-init
loop-rule-init c = subst (AreLeft c.args.sig.now c.args.general.now []) (sym c.new-all.ensures.items) (none_left c.args.sig.now c.args.general.now)

pub loop-rule-preserved : goal.loop-rule-preserved
loop-rule-preserved c =
    let d = c.args.sig.now in
    let general = c.args.general.now in
    let rules = c.args.rules.now in
    let i = c.loop-rule.rule-index in
    let left = c.loop-rule.all.items in
    let rule : Rule = c.rule-item.result in
    subst (AreLeft d general (take (i + 1) rules)) (sym (c.in_ok-push.ensures.items ∙ ap (λ (r : Rule). left ++ r ∷ []) c.in_ok-copy.ensures))
    (subst (λ (l : List Rule). AreLeft d general l (left ++ rule ∷ [])) (sym (take-step rules i rule c.loop-rule-test.true c.rule-item.is)) (left_more d general (take i rules) left c.loop-rule.invariant rule (λ h. not_told (c.in_ok-found.ensures.1 h) c.if-found.false)))

pub loop-rule-preserved-then-found : goal.loop-rule-preserved-then-found
loop-rule-preserved-then-found c =
    let d = c.args.sig.now in
    let general = c.args.general.now in
    let rules = c.args.rules.now in
    let i = c.loop-rule.rule-index in
    let left = c.loop-rule.all.items in
    let rule : Rule = c.rule-item.result in
    subst (λ (l : List Rule). AreLeft d general l left) (sym (take-step rules i rule c.loop-rule-test.true c.rule-item.is))
    (left_out d general (take i rules) left c.loop-rule.invariant rule (c.in_ok-found.ensures.0 c.if-found.true))

pub returns : goal.returns
returns c = subst (λ (l : List Rule). AreLeft c.args.sig.now c.args.general.now l c.loop-rule.all.items) (take_all c.loop-rule.rule-index c.args.rules.now c.loop-rule-test.false) c.loop-rule.invariant
