-- The head that is noted is another one.
use Rattle.std.proofs.Common.{get_or, sym, ap, ◌∙◌, None}
use Rattle.fvn_combine_inferring.proofs.bounds.is_headed_apart.Goals as goal

pub returns-in-Some : goal.returns-in-Some
returns-in-Some c t = (c.in-Some.g, ap (λ i. get_or c.args.heads.now i None) (sym c.class_of.ensures) ∙ c.in-Some.is, c.is_other_head.ensures t)
