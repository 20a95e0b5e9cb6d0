-- A step takes the current list away, and nothing else.
use Rattle.std.proofs.Common.{◌∙◌, ap, sym, subst, map}
use Rattle.std.specs.List.{AllZip}
use Rattle.std.proofs.lemmas.List.{with_items_is}
use Rattle.fvn_acunify_product.specs.Wheels.{IsChoice, counts_of, wheel_of}
use Rattle.fvn_acunify_product.proofs.Left.{shown_is, taken_by_step, given_by_step, found_by_step, falls_by_step, choices_are_below}
use Rattle.fvn_acunify_product.proofs.wheels.Wheels.advance.Goals as goal

pub returns-then-not-self-clause-taken : goal.returns-then-not-self-clause-taken
returns-then-not-self-clause-taken c =
    let seen = ap (map wheel_of) (sym c.as_mut_slice.ensures.value) in
    let kept = ap (map wheel_of) (with_items_is c.self.inside.wheels c.step.new.wheels (c.step.auto.wheels ∙ c.as_mut_slice.ensures.len)) ∙ c.step.ensures.same in
    taken_by_step IsChoice c.args.self.now.wheels _ (map wheel_of c.as_mut_slice.result.now) c.args.self.now.current
    c.self.inside.numbers.items c.as_mut_slice-then-not-self.result.now c.step.new.numbers _ c.step.result
    (sym (ap (λ o. o.wheels) c.self.view_is) ∙ seen ∙ sym kept) kept
    (shown_is c.args.self.now.current c.self.inside.numbers.items c.self.inside.is_over (sym (ap (λ o. o.current) c.self.view_is)) c.if-not-self.true)
    (sym c.as_mut_slice-then-not-self.ensures.value)
    (with_items_is c.self.inside.numbers c.step.new.numbers (c.step.auto.numbers ∙ c.as_mut_slice-then-not-self.ensures.len))
    (subst (λ ws. AllZip IsChoice ws c.self.inside.numbers.items) (seen ∙ sym kept) (c.self.invariant.1 c.if-not-self.true).0)
    c.step.ensures.next c.step.ensures.last

pub returns-then-not-self-clause-once : goal.returns-then-not-self-clause-once
returns-then-not-self-clause-once c =
    let kept = ap (map wheel_of) (with_items_is c.self.inside.wheels c.step.new.wheels (c.step.auto.wheels ∙ c.as_mut_slice.ensures.len)) ∙ c.step.ensures.same in
    given_by_step IsChoice _ (map wheel_of c.as_mut_slice.result.now) c.args.self.now.current
    c.self.inside.numbers.items c.as_mut_slice-then-not-self.result.now c.step.new.numbers _ c.step.result
    kept
    (shown_is c.args.self.now.current c.self.inside.numbers.items c.self.inside.is_over (sym (ap (λ o. o.current) c.self.view_is)) c.if-not-self.true)
    (sym c.as_mut_slice-then-not-self.ensures.value)
    (with_items_is c.self.inside.numbers c.step.new.numbers (c.step.auto.numbers ∙ c.as_mut_slice-then-not-self.ensures.len))
    c.step.ensures.next

pub returns-then-not-self-clause-falls : goal.returns-then-not-self-clause-falls
returns-then-not-self-clause-falls c = λ _ _.
    let seen = ap (map wheel_of) (sym c.as_mut_slice.ensures.value) in
    let kept = ap (map wheel_of) (with_items_is c.self.inside.wheels c.step.new.wheels (c.step.auto.wheels ∙ c.as_mut_slice.ensures.len)) ∙ c.step.ensures.same in
    let found = found_by_step IsChoice _ (map wheel_of c.as_mut_slice.result.now) c.self.inside.numbers.items c.as_mut_slice-then-not-self.result.now c.step.new.numbers c.step.result
    kept (sym c.as_mut_slice-then-not-self.ensures.value) c.step.ensures.next in
    falls_by_step _ (counts_of c.args.self.now.wheels) c.args.self.now.current
    c.self.inside.numbers.items c.step.new.numbers _ c.step.result
    (ap counts_of (sym (ap (λ o. o.wheels) c.self.view_is) ∙ seen ∙ sym kept))
    (shown_is c.args.self.now.current c.self.inside.numbers.items c.self.inside.is_over (sym (ap (λ o. o.current) c.self.view_is)) c.if-not-self.true)
    (with_items_is c.self.inside.numbers c.step.new.numbers (c.step.auto.numbers ∙ c.as_mut_slice-then-not-self.ensures.len))
    (choices_are_below _ _ (subst (λ ws. AllZip IsChoice ws c.self.inside.numbers.items) (seen ∙ sym kept) (c.self.invariant.1 c.if-not-self.true).0))
    (λ t. (choices_are_below _ _ (found t).0, (found t).1))
