-- It has the summands of the part, and may have any others.
use Rattle.std.proofs.Common.{inl, inr}
use Rattle.fvn_combine_loose.proofs.summing.is_filled.Goals as goal

pub returns : goal.returns
returns c t = inr (c.is_held.ensures c.if-not-is_held.false, c.variable_takes_sums.ensures t)

pub returns-then-is_headed : goal.returns-then-is_headed
returns-then-is_headed c t = inl (c.is_headed.ensures c.if-is_headed.true)
