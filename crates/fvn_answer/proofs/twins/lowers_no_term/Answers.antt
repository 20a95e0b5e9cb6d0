-- The text is kept, or it is raised.
use Rattle.std.proofs.Common.{inl, inr}
use Rattle.fvn_answer.proofs.twins.lowers_no_term.Goals as goal

pub returns-then-keeps_term : goal.returns-then-keeps_term
returns-then-keeps_term c r = inl (c.keeps_term.ensures c.if-keeps_term.true)

pub returns : goal.returns
returns c r = inr (c.raises_term.ensures r)
