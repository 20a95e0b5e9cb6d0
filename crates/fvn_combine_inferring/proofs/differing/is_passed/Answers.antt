-- It is the other node, or differs.
use Rattle.std.proofs.Common.{inl, inr}
use Rattle.fvn_combine_inferring.proofs.differing.is_passed.Goals as goal

pub returns-then-x-l : goal.returns-then-x-l
returns-then-x-l c t = inl c.if-x-l.true

pub returns : goal.returns
returns c t = inr (c.is_no_summand.ensures t)
