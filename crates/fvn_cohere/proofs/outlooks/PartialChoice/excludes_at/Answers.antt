-- The left side is out of reach, or the right side is below.
use Rattle.std.proofs.Common.{inl, inr}
use Rattle.fvn_forms.proofs.SortOrder.{AtOrBelow-trans}
use Rattle.fvn_cohere.proofs.outlooks.PartialChoice.excludes_at.Goals as goal

pub returns-then-is_out_of_reach : goal.returns-then-is_out_of_reach
returns-then-is_out_of_reach c = λ h. inl (c.is_out_of_reach.ensures c.if-is_out_of_reach.true)

pub returns : goal.returns
returns c = λ h. inr (λ filled w. AtOrBelow-trans c.args.self.now.sig.now (c.outlook-high_side.ensures filled w).high (c.leq.ensures.0 h))
