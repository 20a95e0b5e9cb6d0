-- A step takes the current list away, and nothing else.
use Rattle.std.proofs.Common.{◌∙◌, ap, sym}
use Rattle.std.proofs.lemmas.List.{with_items_is}
use Rattle.fvn_acunify_product.specs.Tags.{IsOption}
use Rattle.fvn_acunify_product.proofs.Left.{shown_is, taken_by_step, given_by_step, found_by_step, falls_by_step}
use Rattle.fvn_acunify_product.proofs.tags.Tags.advance.Goals as goal

pub returns-then-not-self-clause-taken : goal.returns-then-not-self-clause-taken
returns-then-not-self-clause-taken c =
    taken_by_step IsOption c.args.self.now.counts c.self.inside.counts.items c.as_slice.result.now c.args.self.now.current
    c.self.inside.numbers.items c.as_mut_slice.result.now c.step.new.numbers _ c.step.result
    (sym (ap (λ t. t.counts) c.self.view_is)) (sym c.as_slice.ensures.value)
    (shown_is c.args.self.now.current c.self.inside.numbers.items c.self.inside.is_over (sym (ap (λ t. t.current) c.self.view_is)) c.if-not-self.true)
    (sym c.as_mut_slice.ensures.value)
    (with_items_is c.self.inside.numbers c.step.new.numbers (c.step.auto.numbers ∙ c.as_mut_slice.ensures.len))
    (c.self.invariant.1 c.if-not-self.true) c.step.ensures.next c.step.ensures.last

pub returns-then-not-self-clause-once : goal.returns-then-not-self-clause-once
returns-then-not-self-clause-once c =
    given_by_step IsOption c.self.inside.counts.items c.as_slice.result.now c.args.self.now.current
    c.self.inside.numbers.items c.as_mut_slice.result.now c.step.new.numbers _ c.step.result
    (sym c.as_slice.ensures.value)
    (shown_is c.args.self.now.current c.self.inside.numbers.items c.self.inside.is_over (sym (ap (λ t. t.current) c.self.view_is)) c.if-not-self.true)
    (sym c.as_mut_slice.ensures.value)
    (with_items_is c.self.inside.numbers c.step.new.numbers (c.step.auto.numbers ∙ c.as_mut_slice.ensures.len))
    c.step.ensures.next

pub returns-then-not-self-clause-falls : goal.returns-then-not-self-clause-falls
returns-then-not-self-clause-falls c = λ _ _.
    falls_by_step c.self.inside.counts.items c.args.self.now.counts c.args.self.now.current
    c.self.inside.numbers.items c.step.new.numbers _ c.step.result
    (sym (ap (λ t. t.counts) c.self.view_is))
    (shown_is c.args.self.now.current c.self.inside.numbers.items c.self.inside.is_over (sym (ap (λ t. t.current) c.self.view_is)) c.if-not-self.true)
    (with_items_is c.self.inside.numbers c.step.new.numbers (c.step.auto.numbers ∙ c.as_mut_slice.ensures.len))
    (c.self.invariant.1 c.if-not-self.true)
    (found_by_step IsOption c.self.inside.counts.items c.as_slice.result.now c.self.inside.numbers.items c.as_mut_slice.result.now c.step.new.numbers c.step.result
    (sym c.as_slice.ensures.value) (sym c.as_mut_slice.ensures.value) c.step.ensures.next)
