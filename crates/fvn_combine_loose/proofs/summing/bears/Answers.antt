-- In the class of the summand, or noted as a sum over it.
use Rattle.std.proofs.Common.{Some, sym, ap, ◌∙◌, inl, inr}
use Rattle.fvn_combine_loose.proofs.summing.bears.Goals as goal

pub returns-then-class_of : goal.returns-then-class_of
returns-then-class_of c t = inl (sym c.class_of.ensures ∙ c.if-class_of.true ∙ c.class_of-2.ensures)

pub returns-in-Some : goal.returns-in-Some
returns-in-Some c t = inr (sym c.sum_at.ensures ∙ c.in-Some.is ∙ ap Some (c.is_one_sum.ensures t))
