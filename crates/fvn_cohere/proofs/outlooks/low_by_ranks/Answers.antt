-- The sort is at or below what may serve.
use Rattle.std.proofs.Common.{sym, ◌∙◌}
use Rattle.fvn_cohere.specs.inner.Outlooks.{lows_of}
use Rattle.fvn_cohere.proofs.Foreseen.{low_by_rank}
use Rattle.fvn_cohere.proofs.outlooks.low_by_ranks.Goals as goal

pub returns-then-is_below_ranks : goal.returns-then-is_below_ranks
returns-then-is_below_ranks c = λ ss h t.
    low_by_rank c.args.sig.now c.recall_good.ensures c.args.f (lows_of c.args.parts.now) c.in-Some.low ss (sym c.is_below_ranks.ensures ∙ c.if-is_below_ranks.true) h t
