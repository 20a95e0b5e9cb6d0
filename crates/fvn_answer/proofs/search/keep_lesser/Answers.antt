-- The line, or the best one so far.
use Rattle.std.proofs.Common.{subst}
use Rattle.fvn_answer.specs.inner.Fronts.{AtLeast, IsAtMost}
use Rattle.fvn_answer.proofs.Searching.{kept-new, kept-old}
use Rattle.fvn_answer.proofs.search.keep_lesser.Goals as goal

pub returns-then-may_be_less : goal.returns-then-may_be_less
returns-then-may_be_less c =
    kept-new c.args.best.now c.args.line (λ u h. subst (λ v. AtLeast v u) c.as_slice.ensures.value (c.may_be_less.ensures.less c.if-may_be_less.true u h))

pub returns-else-may_be_less : goal.returns-else-may_be_less
returns-else-may_be_less c = kept-old c.args.best.now c.args.line.items (subst (IsAtMost c.args.best.now) c.as_slice.ensures.value (c.may_be_less.ensures.more c.if-may_be_less.false))
