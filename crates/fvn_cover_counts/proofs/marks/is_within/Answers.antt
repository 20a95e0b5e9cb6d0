-- bit by bit
use Rattle.fvn_cover_counts.proofs.WordBits.{within_words}
use Rattle.fvn_cover_counts.proofs.marks.is_within.Goals as goal

pub returns : goal.returns
returns c = within_words c.args.v c.args.w
