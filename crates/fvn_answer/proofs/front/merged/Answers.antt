-- The least of two fronts, by cases on their order.
use Rattle.std.proofs.Common.{◌++◌, refl, sym, ap, ◌∙◌}
use Rattle.std.specs.Ordering.{is_lt}
use Rattle.fvn_answer.proofs.Fronts.{at_least-itself, lt-at_least, no-lt-at_least, merged-front, merged-least, merged-both}
use Rattle.fvn_answer.proofs.front.merged.Goals as goal

pub returns-then-is_lt : goal.returns-then-is_lt
returns-then-is_lt c known other whole all w t s g f =
    merged-front known other whole all c.args.least c.args.front _ w t s g f (lt-at_least c.args.front.text.items c.args.least.text.items (sym (c.is_lt.ensures ∙ ap is_lt c.cmp.ensures) ∙ c.if-is_lt.true))
    (at_least-itself c.args.front.text.items) refl c.lesser-later_front.ensures.first c.lesser-later_front.ensures.second

pub returns-then-is_lt-2 : goal.returns-then-is_lt-2
returns-then-is_lt-2 c known other whole all w t s g f =
    merged-least known other whole all c.args.least c.args.front _ w t s g f (at_least-itself c.args.least.text.items)
    (lt-at_least c.args.least.text.items c.args.front.text.items (sym (c.is_lt-2.ensures ∙ ap is_lt c.cmp-2.ensures) ∙ c.if-is_lt-2.true)) refl
    c.lesser-later_least.ensures.first c.lesser-later_least.ensures.second

pub returns : goal.returns
returns c known other whole all w t s g f =
    merged-both known other whole all c.args.least c.args.front _ w t s g f (at_least-itself c.args.least.text.items)
    (no-lt-at_least c.args.front.text.items c.args.least.text.items (sym (c.is_lt.ensures ∙ ap is_lt c.cmp.ensures) ∙ c.if-is_lt.false))
    (c.in_ok-extend_from_slice.ensures.items ∙ ap (λ l. c.args.least.tips.items ++ l) c.as_slice.ensures.value) c.lesser-later.ensures.first c.lesser-later.ensures.second
