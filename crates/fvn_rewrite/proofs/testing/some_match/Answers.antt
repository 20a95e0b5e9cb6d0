-- One rule more, the last first.
use Rattle.std.proofs.Common.{◌≡◌, ◌<◌, ◌-◌, length, drop, sym, ◌∙◌, subst, arith}
use Rattle.std.specs.Prelude.{Contains}
use Rattle.std.proofs.lemmas.List.Elements.{All-get_or, Contains-get_or}
use Rattle.fvn_rewrite.specs.inner.Trying.{SidesFit, NoneMatches}
use Rattle.fvn_rewrite.proofs.Tested.{none_behind, none_before, match_told, no_match_told}
use Rattle.fvn_rewrite.proofs.testing.some_match.Goals as goal

pub loop-i-init : goal.loop-i-init
loop-i-init c = record { within = omega arith; behind = none_behind c.args.sig.now c.args.t.now c.args.rules.now _ (omega arith) }

pub rule_match-requires : goal.rule_match-requires
rule_match-requires c =
    let d = c.args.sig.now in
    let rule = c.index-rules-i.result in
    let test = c.loop-i-test.true in
    let low = c.loop-i.invariant.within in
    let within : c.loop-i.i - 1 < length c.args.rules.now = omega (arith, test, low) in
    let fit : SidesFit d rule = subst (SidesFit d) (sym c.index-rules-i.is) (All-get_or (SidesFit d) c.args.rules.now (c.loop-i.i - 1) rule within c.requires.rules) in
    record { sides = fit; term = c.requires.term }

pub loop-i-preserved : goal.loop-i-preserved
loop-i-preserved c =
    let rule = c.index-rules-i.result in
    let test = c.loop-i-test.true in
    let low = c.loop-i.invariant.within in record {
      within = omega (arith, test, low);
      behind = none_before c.args.sig.now c.args.t.now c.args.rules.now c.loop-i.i rule (omega (arith, test)) low c.index-rules-i.is
          (no_match_told c.args.sig.now c.args.t.now rule c.in_ok-found.found c.in_ok-found.ensures (sym c.is_some-met.ensures ∙ c.if-met.false)) c.loop-i.invariant.behind;
    }

pub returns-then-met : goal.returns-then-met
returns-then-met c =
    let d = c.args.sig.now in
    let rules = c.args.rules.now in
    let rule = c.index-rules-i.result in
    let test = c.loop-i-test.true in
    let low = c.loop-i.invariant.within in
    let within : c.loop-i.i - 1 < length rules = omega (arith, test, low) in
    let fit : SidesFit d rule = subst (SidesFit d) (sym c.index-rules-i.is) (All-get_or (SidesFit d) rules (c.loop-i.i - 1) rule within c.requires.rules) in
    match_told d c.recall_good.ensures rules c.args.t.now rule (subst (Contains rules) (sym c.index-rules-i.is) (Contains-get_or rules (c.loop-i.i - 1) rule within)) fit
    c.in_ok-found.found c.in_ok-found.ensures (sym c.is_some-met.ensures ∙ c.if-met.true)

pub returns : goal.returns
returns c =
    let test = c.loop-i-test.false in
    let end : c.loop-i.i ≡ 0 = omega (arith, test) in
    subst (λ k. NoneMatches c.args.sig.now c.args.t.now (drop k c.args.rules.now)) end c.loop-i.invariant.behind
