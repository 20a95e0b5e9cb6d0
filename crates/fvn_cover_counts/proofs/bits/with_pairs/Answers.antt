-- one number more
use Rattle.fvn_cover_counts.proofs.SetBits.{with_pairs_more}
use Rattle.fvn_cover_counts.proofs.bits.with_pairs.Goals as goal

pub loop-j-preserved : goal.loop-j-preserved
loop-j-preserved c = with_pairs_more c.args.i c.args.places.now c.loop-j.j c.args.word c.loop-j.more _ c.loop-j.invariant c.with_pair-more.ensures
