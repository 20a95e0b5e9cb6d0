-- lower and higher marks, and one more
use Rattle.fvn_cover_counts.proofs.Holding.{more_between}
use Rattle.fvn_cover_counts.proofs.blocks.Block.longer.Goals as goal

pub returns : goal.returns
returns c = record {
  block = more_between c.args.self.low c.args.self.high c.args.m c.lower_of-low.result c.upper_of-high.result c.lower_of-low.ensures.out c.requires.out
      c.lower_of-low.ensures.first c.lower_of-low.ensures.second c.upper_of-high.ensures.first c.upper_of-high.ensures.second c.args.self.marks.items _ c.in_ok-push.ensures.items c.requires.block;
  marks = c.in_ok-push.ensures.items;
}
