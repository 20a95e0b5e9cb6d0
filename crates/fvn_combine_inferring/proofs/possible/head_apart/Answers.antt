-- The head that is noted is another one.
use Rattle.std.proofs.Common.{get_or, sym, ap, ◌∙◌, None}
use Rattle.fvn_combine_inferring.proofs.possible.head_apart.Goals as goal

pub returns-else-not-is_other_head : goal.returns-else-not-is_other_head
returns-else-not-is_other_head c = (ap (λ i. get_or c.args.heads.now i None) (sym c.class_of.ensures) ∙ c.in-Some.is, c.is_other_head.ensures c.if-not-is_other_head.false)
