-- One rank more.
use Rattle.fvn_forms.specs.Ranks.{ranks_of}
use Rattle.fvn_cohere.specs.inner.Outlooks.{is_below_rank, lows_of}
use Rattle.fvn_cohere.proofs.Tests.{all_passed, not_passed}
use Rattle.fvn_cohere.proofs.outlooks.is_below_ranks.Goals as goal

pub returns-then-not-is_below_rank : goal.returns-then-not-is_below_rank
returns-then-not-is_below_rank c =
    let d = c.args.sig.now in
    not_passed (is_below_rank d (lows_of c.args.parts.now) c.args.low) (ranks_of d c.args.f) c.loop-i.i c.rank.result.now c.is_below_rank.result c.loop-i.invariant c.rank.ensures c.is_below_rank.ensures c.if-not-is_below_rank.true

pub loop-i-preserved : goal.loop-i-preserved
loop-i-preserved c =
    let d = c.args.sig.now in
    all_passed (is_below_rank d (lows_of c.args.parts.now) c.args.low) (ranks_of d c.args.f) c.loop-i.i c.rank.result.now c.is_below_rank.result c.loop-i.invariant c.rank.ensures c.is_below_rank.ensures c.if-not-is_below_rank.false
