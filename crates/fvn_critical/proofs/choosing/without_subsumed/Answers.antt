-- One rule fewer is left.
use Rattle.std.proofs.Common.{List, sym, subst, arith}
use Rattle.std.specs.Prelude.{All}
use Rattle.std.proofs.lemmas.List.Elements.{All-contains}
use Rattle.fvn_rewrite_rules.specs.declared.rule.Rule.{Rule}
use Rattle.fvn_critical_pairs.specs.Overlaps.{SomeSubsumes}
use Rattle.fvn_critical.specs.inner.Choosing.{SidesFit, AreChosenBut}
use Rattle.fvn_critical.proofs.Subsuming.{none_chosen, last_given, chosen_more, chosen_without, all_chosen, some_fit}
use Rattle.fvn_critical.proofs.choosing.without_subsumed.Goals as goal

pub loop-rule-init : goal.loop-rule-init
loop-rule-init c = subst (AreChosenBut c.args.sig.now c.args.rules.items c.args.rules.items) (sym c.new-chosen.ensures.items) (none_chosen c.args.sig.now c.args.rules.items)

pub some_subsumes-requires-clause-rules : goal.some_subsumes-requires-clause-rules
some_subsumes-requires-clause-rules c =
    subst (All (SidesFit c.args.sig.now)) (sym c.as_slice.ensures.value) (some_fit c.args.sig.now c.args.rules.items c.loop-rule.chosen.items c.loop-rule.invariant.given c.requires)

pub some_subsumes-requires-clause-rule : goal.some_subsumes-requires-clause-rule
some_subsumes-requires-clause-rule c =
    All-contains (SidesFit c.args.sig.now) c.args.rules.items c.in-Some.rule c.requires
    (last_given c.args.sig.now c.args.rules.items c.loop-rule.rest.items c.pop.new.self.items c.loop-rule.chosen.items c.in-Some.rule c.in-Some.ensures.items c.loop-rule.invariant)

pub loop-rule-preserved-then-found : goal.loop-rule-preserved-then-found
loop-rule-preserved-then-found c =
    chosen_without c.args.sig.now c.args.rules.items c.loop-rule.rest.items c.pop.new.self.items c.loop-rule.chosen.items c.in-Some.rule c.in-Some.ensures.items c.loop-rule.invariant
    (subst (λ (l : List Rule). SomeSubsumes c.args.sig.now l c.in-Some.rule) c.as_slice.ensures.value (c.in_ok-found.ensures c.if-found.true))

pub loop-rule-preserved : goal.loop-rule-preserved
loop-rule-preserved c =
    subst (AreChosenBut c.args.sig.now c.args.rules.items c.pop.new.self.items) (sym c.in_ok-push.ensures.items)
    (chosen_more c.args.sig.now c.args.rules.items c.loop-rule.rest.items c.pop.new.self.items c.loop-rule.chosen.items c.in-Some.rule c.in-Some.ensures.items c.loop-rule.invariant)

pub returns : goal.returns
returns c = all_chosen c.args.sig.now c.args.rules.items c.loop-rule.rest.items c.loop-rule.chosen.items (omega (arith, c.loop-rule.rest.ok.0, c.in_default.ensures.cases.0)) c.loop-rule.invariant
