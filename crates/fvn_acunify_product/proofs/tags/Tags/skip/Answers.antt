-- A step after all that agree takes these lists away, and nothing else.
use Rattle.std.proofs.Common.{◌∙◌, ap, sym}
use Rattle.std.proofs.lemmas.List.{with_items_is}
use Rattle.fvn_acunify_product.proofs.Left.{shown_is, falls_by_step}
use Rattle.fvn_acunify_product.proofs.Skips.{rest_by_skip, kept_by_skip, passed_by_skip, found_by_skip}
use Rattle.fvn_acunify_product.proofs.tags.Tags.skip.Goals as goal

pub returns-then-not-self-clause-taken : goal.returns-then-not-self-clause-taken
returns-then-not-self-clause-taken c =
    rest_by_skip c.args.self.now.counts c.self.inside.counts.items c.as_slice.result.now c.args.self.now.current
    c.self.inside.numbers.items c.as_mut_slice.result.now c.step_after.new.numbers _ c.args.place c.step_after.result
    (sym (ap (λ t. t.counts) c.self.view_is)) (sym c.as_slice.ensures.value)
    (shown_is c.args.self.now.current c.self.inside.numbers.items c.self.inside.is_over (sym (ap (λ t. t.current) c.self.view_is)) c.if-not-self.true)
    (sym c.as_mut_slice.ensures.value)
    (with_items_is c.self.inside.numbers c.step_after.new.numbers (c.step_after.auto.numbers ∙ c.as_mut_slice.ensures.len))
    c.step_after.ensures.next c.step_after.ensures.last

pub returns-then-not-self-clause-kept : goal.returns-then-not-self-clause-kept
returns-then-not-self-clause-kept c =
    kept_by_skip c.args.self.now.counts c.self.inside.counts.items c.as_slice.result.now c.args.self.now.current
    c.self.inside.numbers.items c.as_mut_slice.result.now c.step_after.new.numbers _ c.args.place c.step_after.result
    (sym (ap (λ t. t.counts) c.self.view_is)) (sym c.as_slice.ensures.value)
    (shown_is c.args.self.now.current c.self.inside.numbers.items c.self.inside.is_over (sym (ap (λ t. t.current) c.self.view_is)) c.if-not-self.true)
    (sym c.as_mut_slice.ensures.value)
    (with_items_is c.self.inside.numbers c.step_after.new.numbers (c.step_after.auto.numbers ∙ c.as_mut_slice.ensures.len))
    c.step_after.ensures.next

pub returns-then-not-self-clause-passed : goal.returns-then-not-self-clause-passed
returns-then-not-self-clause-passed c =
    passed_by_skip c.self.inside.counts.items c.as_slice.result.now c.args.self.now.current
    c.self.inside.numbers.items c.as_mut_slice.result.now c.step_after.new.numbers _ c.args.place c.step_after.result
    (sym c.as_slice.ensures.value)
    (shown_is c.args.self.now.current c.self.inside.numbers.items c.self.inside.is_over (sym (ap (λ t. t.current) c.self.view_is)) c.if-not-self.true)
    (sym c.as_mut_slice.ensures.value)
    (with_items_is c.self.inside.numbers c.step_after.new.numbers (c.step_after.auto.numbers ∙ c.as_mut_slice.ensures.len))
    c.step_after.ensures.next

pub returns-then-not-self-clause-falls : goal.returns-then-not-self-clause-falls
returns-then-not-self-clause-falls c = λ _ _.
    falls_by_step c.self.inside.counts.items c.args.self.now.counts c.args.self.now.current
    c.self.inside.numbers.items c.step_after.new.numbers _ c.step_after.result
    (sym (ap (λ t. t.counts) c.self.view_is))
    (shown_is c.args.self.now.current c.self.inside.numbers.items c.self.inside.is_over (sym (ap (λ t. t.current) c.self.view_is)) c.if-not-self.true)
    (with_items_is c.self.inside.numbers c.step_after.new.numbers (c.step_after.auto.numbers ∙ c.as_mut_slice.ensures.len))
    (c.self.invariant.1 c.if-not-self.true)
    (found_by_skip c.self.inside.counts.items c.as_slice.result.now c.self.inside.numbers.items c.as_mut_slice.result.now c.step_after.new.numbers c.args.place c.step_after.result
    (sym c.as_slice.ensures.value) (sym c.as_mut_slice.ensures.value) c.step_after.ensures.next)
