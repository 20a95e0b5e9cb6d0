-- bit by bit
use Rattle.fvn_cover_counts.proofs.WordBits.{or_within}
use Rattle.fvn_cover_counts.proofs.marks.joined_bits.Goals as goal

pub returns : goal.returns
returns c = let h = or_within c.args.v c.args.w in record { first = h.0; second = h.1 }
