-- word by word
use Rattle.std.proofs.Common.{refl}
use Rattle.fvn_cover_counts.proofs.marks.Marks.lower_of.Goals as goal

pub returns : goal.returns
returns c = record {
  out = refl;
  first = (c.common_bits.ensures.first, c.joined_bits.ensures.first);
  second = (c.common_bits.ensures.second, c.joined_bits.ensures.second);
}
