-- The front of a name over arguments of which some are not known.
use Rattle.std.proofs.Common.{[], ◌∷◌, ◌++◌, refl, ap, ◌∙◌}
use Rattle.fvn_answer.specs.inner.Bytes.{over_texts, with_each}
use Rattle.fvn_answer.specs.Writing.{bytes_of}
use Rattle.fvn_answer.specs.inner.Fronts.{arranged_if, upto}
use Rattle.fvn_answer.proofs.Fronts.{no-tips, some-tips, whole-texts, closed-front, over-open}
use Rattle.fvn_answer.proofs.front.over_front.Goals as goal

pub returns-then-is_empty : goal.returns-then-is_empty
returns-then-is_empty c known other whole all e g =
    let none = no-tips c.args.least.tips c.if-is_empty.ensures in
    let is = whole-texts c.args.exchange whole all c.args.least.tips.items c.args.least.text.items none g.upto in
    closed-front known other c.closed.result (over_texts c.args.name.now (arranged_if c.args.exchange all)) c.closed.ensures.tips
    (ap (λ t. t.items) c.closed.ensures.text ∙ c.in_ok-text.ensures ∙ ap (over_texts c.args.name.now) (e ∙ ap (arranged_if c.args.exchange) is)) c.closed.ensures.later

pub returns : goal.returns
returns c known other whole all e g =
    let shown = bytes_of c.args.texts.now in
    over-open known other c.args.exchange c.args.name.now shown whole all c.args.least _ (some-tips c.args.least.tips c.if-is_empty.ensures) refl e g
    (c.in_ok-text-2.ensures ∙ ap (λ l. with_each 40 c.args.name.now (upto c.args.exchange l shown ++ l ∷ [])) c.as_slice.ensures.value)
    (c.in_ok-later.ensures ∙ ap (λ l. with_each 40 c.args.name.now (upto c.args.exchange l shown ++ l ∷ [])) c.as_slice-2.ensures.value)
