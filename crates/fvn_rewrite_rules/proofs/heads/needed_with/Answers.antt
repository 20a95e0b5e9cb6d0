-- With one rule more.
use Rattle.std.proofs.Common.{[], ◌∷◌, ◌++◌, List, false, sym, ap, ◌∙◌, subst}
use Rattle.fvn_rewrite_rules.specs.declared.rule.Rule.{Rule}
use Rattle.fvn_rewrite_rules.specs.inner.Heads.{SomeHasInstance, SomeServesAs, AreLeft, AreNeededWith}
use Rattle.fvn_rewrite_rules.proofs.Needed.{serves_some, with_none, with_one}
use Rattle.fvn_rewrite_rules.proofs.heads.needed_with.Goals as goal

pub returns-then-found : goal.returns-then-found
returns-then-found c =
    with_none c.args.sig.now c.args.rule.now c.args.needed.items
    (subst (λ (l : List Rule). SomeHasInstance c.args.sig.now l c.args.rule.now) c.as_slice.ensures.value (serves_some c.args.sig.now c.as_slice.result.now c.args.rule.now c.in_ok-found.found c.if-found.true c.in_ok-found.ensures))

pub returns : goal.returns
returns c =
    let d = c.args.sig.now in
    let rule = c.args.rule.now in
    let left = c.in_ok-all.all.items in
    let none_serves : SomeServesAs d c.args.needed.items rule false = subst (λ (l : List Rule). SomeServesAs d l rule false) c.as_slice.ensures.value (subst (SomeServesAs d c.as_slice.result.now rule) c.if-found.false c.in_ok-found.ensures) in
    let old = subst (λ (l : List Rule). AreLeft d rule l left) c.as_slice-2.ensures.value c.in_ok-all.ensures in
    subst (AreNeededWith d rule c.args.needed.items) (sym (c.in_ok-push.ensures.items ∙ ap (λ (r : Rule). left ++ r ∷ []) c.in_ok-copy.ensures)) (with_one d rule c.args.needed.items none_serves left old)
