-- One more argument.
use Rattle.std.proofs.Common.{◌∷◌, ◌++◌, [], sym, ap, ◌∙◌, subst}
use Rattle.fvn_answer.specs.Writing.{bytes_of}
use Rattle.fvn_answer.specs.inner.Fronts.{AreGathered}
use Rattle.fvn_answer.proofs.Fronts.{no-tips, some-tips, gathered-whole, gathered-first, gathered-both, bytes-snoc}
use Rattle.fvn_answer.proofs.front.gather.Goals as goal

pub returns-then-is_empty : goal.returns-then-is_empty
returns-then-is_empty c known other exchange all w or g f =
    let texts = c.args.texts.now.items in
    subst (λ ts. AreGathered known other exchange ts c.args.least (all ++ w ∷ [])) (sym (ap bytes_of c.in_ok-push.ensures.items ∙ bytes-snoc texts c.args.front.text))
    (gathered-whole known other exchange (bytes_of texts) all c.args.least c.args.front w or (no-tips c.args.front.tips c.if-is_empty.ensures) g f)

pub returns-then-is_empty-2 : goal.returns-then-is_empty-2
returns-then-is_empty-2 c known other exchange all w or g f =
    gathered-first known other exchange (bytes_of c.args.texts.now.items) all c.args.least c.args.front w (no-tips c.args.least.tips c.if-is_empty-2.ensures) (some-tips c.args.front.tips c.if-is_empty.ensures) g f

pub returns : goal.returns
returns c known other exchange all w or g f =
    gathered-both known other exchange (bytes_of c.args.texts.now.items) all c.args.least c.args.front c.in_ok-both.both w or
    (some-tips c.args.least.tips c.if-is_empty-2.ensures) (some-tips c.args.front.tips c.if-is_empty.ensures) g f
    (λ whole all w t s g f. c.in_ok-both.ensures known other whole all w t s g f)
