-- A rule that serves is one of them.
use Rattle.std.proofs.Common.{◌+◌, List, false, take, sym, subst}
use Rattle.std.specs.List.{Contains}
use Rattle.std.proofs.lemmas.List.{take_all}
use Rattle.std.proofs.lemmas.List.Elements.{Contains-get_or}
use Rattle.fvn_rewrite_rules.specs.declared.rule.Rule.{Rule}
use Rattle.fvn_rewrite_rules.specs.inner.Making.{IsKindedRule}
use Rattle.fvn_rewrite_rules.specs.inner.Heads.{SomeServesAs}
use Rattle.fvn_rewrite_rules.proofs.Steps.{take-step, All-item}
use Rattle.fvn_rewrite_rules.proofs.Needed.{none_of_none, none_of_more, serves_one}
use Rattle.fvn_rewrite_rules.proofs.heads.some_serves.Goals as goal

pub serves-requires-clause-rule : goal.serves-requires-clause-rule
serves-requires-clause-rule c = All-item (IsKindedRule c.args.sig.now) c.args.rules.now c.requires.rules c.loop-general.general-index c.general-item.result c.loop-general-test.true c.general-item.is

pub loop-general-init : goal.loop-general-init
loop-general-init c = none_of_none c.args.sig.now c.args.rule.now

pub loop-general-preserved : goal.loop-general-preserved
loop-general-preserved c =
    let d = c.args.sig.now in
    let rules = c.args.rules.now in
    let i = c.loop-general.general-index in
    let general : Rule = c.general-item.result in
    none_of_more d c.args.rule.now (take i rules) (take (i + 1) rules) general (take-step rules i general c.loop-general-test.true c.general-item.is) c.loop-general.invariant c.in_ok-found.found c.if-found.false c.in_ok-found.ensures

pub returns-then-own : goal.returns-then-own
returns-then-own c = c.in_ok-own.ensures c.if-own.true

pub returns-then-found : goal.returns-then-found
returns-then-found c = (
  c.general-item.result,
  (
    subst (Contains c.args.rules.now) (sym c.general-item.is) (Contains-get_or c.args.rules.now c.loop-general.general-index c.general-item.result c.loop-general-test.true),
    serves_one c.args.sig.now c.general-item.result c.args.rule.now c.in_ok-found.found c.if-found.true c.in_ok-found.ensures,
  ),
)

pub returns : goal.returns
returns c = subst (λ (l : List Rule). SomeServesAs c.args.sig.now l c.args.rule.now false) (take_all c.loop-general.general-index c.args.rules.now c.loop-general-test.false) c.loop-general.invariant
