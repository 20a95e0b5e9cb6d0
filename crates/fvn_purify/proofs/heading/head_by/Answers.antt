-- One of three heads.
use Rattle.std.proofs.Common.{sym, ◌∙◌}
use Rattle.fvn_purify.proofs.AxiomTests.{sum_head, free_head, pair_head}
use Rattle.fvn_purify.proofs.heading.head_by.Goals as goal

pub returns-then-is_sum : goal.returns-then-is_sum
returns-then-is_sum c = sum_head c.args.f c.args.axioms (sym c.is_sum.ensures.exact ∙ c.if-is_sum.true)

pub returns-then-is_free : goal.returns-then-is_free
returns-then-is_free c = free_head c.args.f c.args.axioms (sym c.is_free.ensures ∙ c.if-is_free.true)

pub returns : goal.returns
returns c = pair_head c.args.f c.args.axioms (sym c.is_sum.ensures.exact ∙ c.if-is_sum.false) (sym c.is_free.ensures ∙ c.if-is_free.false)
