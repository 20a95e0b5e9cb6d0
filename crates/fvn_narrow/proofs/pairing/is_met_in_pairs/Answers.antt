-- One of the needed rules.
use Rattle.std.proofs.Common.{◌≡◌, sym, subst}
use Rattle.std.specs.Prelude.{Contains}
use Rattle.std.proofs.lemmas.List.Elements.{All-contains, Contains-get_or}
use Rattle.fvn_rewrite_rules.specs.declared.rule.Rule.{Rule}
use Rattle.fvn_rewrite_rules.specs.Given.{headed}
use Rattle.fvn_narrow.specs.inner.Pairing.{IsHeadedFit}
use Rattle.fvn_narrow.proofs.Parted.{met_in_pairs}
use Rattle.fvn_narrow.proofs.Whole.{rules_are}
use Rattle.fvn_narrow.proofs.pairing.is_met_in_pairs.Goals as goal

pub is_inner-requires : goal.is_inner-requires
is_inner-requires c =
    let r = c.args.rewriter.now in
    let inner : Rule = c.inner-item.result in
    let same : c.headed-inner-items.result.now ≡ headed r.rules c.args.f = rules_are r c.rules.result.now c.args.f c.headed-inner-items.result.now c.headed-inner-items.ensures c.rules.ensures in
    All-contains (IsHeadedFit r.signature c.args.f) (headed r.rules c.args.f) inner c.requires.all
    (subst (λ l. Contains l inner) same (subst (Contains c.headed-inner-items.result.now) (sym c.inner-item.is) (Contains-get_or c.headed-inner-items.result.now c.loop-inner.inner-index inner c.loop-inner-test.true)))

pub returns-then-met : goal.returns-then-met
returns-then-met c = λ yes.
    let r = c.args.rewriter.now in
    let inner : Rule = c.inner-item.result in
    let same : c.headed-inner-items.result.now ≡ headed r.rules c.args.f = rules_are r c.rules.result.now c.args.f c.headed-inner-items.result.now c.headed-inner-items.ensures c.rules.ensures in
    met_in_pairs r c.args.f c.args.rule.now inner c.requires.heads
    (subst (λ l. Contains l inner) same (subst (Contains c.headed-inner-items.result.now) (sym c.inner-item.is) (Contains-get_or c.headed-inner-items.result.now c.loop-inner.inner-index inner c.loop-inner-test.true)))
    (c.in_ok-met.ensures c.if-met.true)
