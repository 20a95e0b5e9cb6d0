-- A text and a front behind it.
use Rattle.std.proofs.Common.{◌++◌, refl, ap, ◌∙◌}
use Rattle.fvn_answer.proofs.Fronts.{no-tips, whole-front, closed-front}
use Rattle.fvn_answer.proofs.LineFronts.{front-behind}
use Rattle.fvn_answer.proofs.line_front.behind.Goals as goal

pub returns-then-is_empty : goal.returns-then-is_empty
returns-then-is_empty c known other w f =
    closed-front known other c.closed.result (c.args.text.items ++ w) c.closed.ensures.tips
    (ap (λ t. t.items) c.closed.ensures.text ∙ c.in_ok-extend_from_slice.ensures.items
    ∙ ap (λ t. c.args.text.items ++ t) (c.as_slice.ensures.value ∙ whole-front c.args.front.tips.items c.args.front.text.items w (no-tips c.args.front.tips c.if-is_empty.ensures) f.upto))
    c.closed.ensures.later

pub returns : goal.returns
returns c known other w f =
    front-behind known other c.args.text.items w c.args.front _ refl
    (rw (c.in_ok-extend_from_slice-4.ensures.items, c.as_slice-4.ensures.value) refl)
    (rw (c.in_ok-extend_from_slice-3.ensures.items, c.as_slice-3.ensures.value, c.in_ok-extend_from_slice-2.ensures.items, c.as_slice-2.ensures.value, c.new-later.ensures.items) refl) f
