-- One rule more.
use Rattle.std.proofs.Common.{sym, subst}
use Rattle.std.specs.Prelude.{Contains}
use Rattle.std.proofs.lemmas.List.{take_all}
use Rattle.std.proofs.lemmas.List.Elements.{All-get_or, All-more, Contains-get_or}
use Rattle.fvn_flat.specs.Solving.{substitution}
use Rattle.fvn_rewrite.specs.inner.Trying.{SidesFit, HasNoMatch, IsMatch, NoneMatches}
use Rattle.fvn_rewrite.proofs.root.first_match.Goals as goal

pub rule_match-requires : goal.rule_match-requires
rule_match-requires c =
    let d = c.args.sig.now in
    let rule = c.rule-item.result in
    let fit : SidesFit d rule = subst (SidesFit d) (sym c.rule-item.is) (All-get_or (SidesFit d) c.args.rules.now c.loop-rule.rule-index rule c.loop-rule-test.true c.requires.rules) in
    record { sides = fit; term = c.requires.term }

pub apply-requires : goal.apply-requires
apply-requires c =
    let d = c.args.sig.now in
    let rule = c.rule-item.result in
    let fit : SidesFit d rule = subst (SidesFit d) (sym c.rule-item.is) (All-get_or (SidesFit d) c.args.rules.now c.loop-rule.rule-index rule c.loop-rule-test.true c.requires.rules) in
    let here : IsMatch d c.args.t.now rule c.in-Some.s = rw c.in-Some.is at c.in_ok-found.ensures in
    record { subst = here.fit; term = fit.right }

pub loop-rule-preserved : goal.loop-rule-preserved
loop-rule-preserved c =
    let d = c.args.sig.now in
    let t = c.args.t.now in
    let rule = c.rule-item.result in
    let here : HasNoMatch d t rule = rw c.in-None.is at c.in_ok-found.ensures in
    All-more (HasNoMatch d t) c.args.rules.now c.loop-rule.rule-index rule c.loop-rule-test.true c.loop-rule.invariant (subst (HasNoMatch d t) c.rule-item.is here)

pub returns-in-Some : goal.returns-in-Some
returns-in-Some c =
    let rules = c.args.rules.now in
    let rule = c.rule-item.result in
    let s = c.in-Some.s in
    let here : IsMatch c.args.sig.now c.args.t.now rule s = rw c.in-Some.is at c.in_ok-found.ensures in record {
      rule = rule;
      listed = subst (Contains rules) (sym c.rule-item.is) (Contains-get_or rules c.loop-rule.rule-index rule c.loop-rule-test.true);
      by = substitution s;
      well_sorted = here.matches.0;
      left = here.matches.1.0;
      right = c.in_ok-u-in-Some.ensures.equal;
      fits = c.in_ok-u-in-Some.ensures.fits;
    }

pub returns : goal.returns
returns c = subst (NoneMatches c.args.sig.now c.args.t.now) (take_all c.loop-rule.rule-index c.args.rules.now c.loop-rule-test.false) c.loop-rule.invariant
