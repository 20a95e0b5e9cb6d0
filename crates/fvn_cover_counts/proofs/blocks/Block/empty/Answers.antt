-- no marks
use Rattle.fvn_cover_counts.proofs.Holding.{none_between}
use Rattle.fvn_cover_counts.proofs.blocks.Block.empty.Goals as goal

pub returns : goal.returns
returns c = record { block = none_between c.none-m.result c.none-m.result c.new.result.items c.new.ensures.items; marks = c.new.ensures.items }
