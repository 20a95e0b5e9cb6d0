-- word by word
use Rattle.fvn_cover_counts.proofs.marks.Marks.upper_of.Goals as goal

pub returns : goal.returns
returns c = record {
  first = (c.joined_bits.ensures.first, c.common_bits.ensures.first);
  second = (c.joined_bits.ensures.second, c.common_bits.ensures.second);
}
