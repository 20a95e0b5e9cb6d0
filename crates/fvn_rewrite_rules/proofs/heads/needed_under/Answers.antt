-- One rule more, headed or not.
use Rattle.std.proofs.Common.{◌≡◌, [], true, false, List, take, Some, sym, ◌∙◌, subst}
use Rattle.std.proofs.lemmas.List.{take_all}
use Rattle.std.proofs.lemmas.List.Elements.{All-take}
use Rattle.fvn_flat.specs.Forms.{head_of}
use Rattle.fvn_rewrite_rules.specs.declared.rule.Rule.{Rule}
use Rattle.fvn_rewrite_rules.specs.inner.Making.{IsKindedRule}
use Rattle.fvn_rewrite_rules.specs.inner.Heads.{AreNeeded}
use Rattle.fvn_rewrite_rules.proofs.Steps.{take-step, All-item}
use Rattle.fvn_rewrite_rules.proofs.Needed.{none_needed, needed_more, needed_same, needed_kinded}
use Rattle.fvn_rewrite_rules.proofs.heads.needed_under.Goals as goal

pub needed_with-requires-clause-needed : goal.needed_with-requires-clause-needed
needed_with-requires-clause-needed c =
    let d = c.args.sig.now in
    needed_kinded d c.args.f (take c.loop-rule.rule-index c.args.rules.now) c.loop-rule.needed.items c.loop-rule.invariant (All-take (IsKindedRule d) c.loop-rule.rule-index c.args.rules.now c.requires)

pub needed_with-requires-clause-rule : goal.needed_with-requires-clause-rule
needed_with-requires-clause-rule c = All-item (IsKindedRule c.args.sig.now) c.args.rules.now c.requires c.loop-rule.rule-index c.rule-item.result c.loop-rule-test.true c.rule-item.is

pub loop-rule-init : goal.loop-rule-init
loop-rule-init c = subst (AreNeeded c.args.sig.now c.args.f []) (sym c.new-needed.ensures.items) (none_needed c.args.sig.now c.args.f)

pub loop-rule-preserved : goal.loop-rule-preserved
loop-rule-preserved c =
    let d = c.args.sig.now in
    let rules = c.args.rules.now in
    let i = c.loop-rule.rule-index in
    let rule : Rule = c.rule-item.result in
    subst (λ (l : List Rule). AreNeeded d c.args.f l c.in_ok-needed.needed.items) (sym (take-step rules i rule c.loop-rule-test.true c.rule-item.is))
    (needed_more d c.args.f (take i rules) c.loop-rule.needed.items c.loop-rule.invariant rule (c.is_headed_by.ensures.0 c.if-not-is_headed_by.false) c.in_ok-needed.needed.items c.in_ok-needed.ensures)

pub loop-rule-preserved-then-not-is_headed_by : goal.loop-rule-preserved-then-not-is_headed_by
loop-rule-preserved-then-not-is_headed_by c =
    let d = c.args.sig.now in
    let rules = c.args.rules.now in
    let i = c.loop-rule.rule-index in
    let rule : Rule = c.rule-item.result in
    let other : head_of rule.left ≡ Some c.args.f → ⊥ = λ h. (let q : true ≡ false = sym (c.is_headed_by.ensures.1 h) ∙ c.if-not-is_headed_by.true in cc) in
    subst (λ (l : List Rule). AreNeeded d c.args.f l c.loop-rule.needed.items) (sym (take-step rules i rule c.loop-rule-test.true c.rule-item.is))
    (needed_same d c.args.f (take i rules) c.loop-rule.needed.items c.loop-rule.invariant rule other)

pub returns : goal.returns
returns c = subst (λ (l : List Rule). AreNeeded c.args.sig.now c.args.f l c.loop-rule.needed.items) (take_all c.loop-rule.rule-index c.args.rules.now c.loop-rule-test.false) c.loop-rule.invariant
