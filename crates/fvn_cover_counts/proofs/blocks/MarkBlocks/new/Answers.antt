-- no block
use Rattle.std.proofs.Common.{sym, subst}
use Rattle.std.specs.Prelude.{All}
use Rattle.std.proofs.lemmas.List.Elements.{All-nil}
use Rattle.fvn_cover_counts.specs.inner.Blocks.{IsBlock}
use Rattle.fvn_cover_counts.proofs.Holding.{held_none}
use Rattle.fvn_cover_counts.proofs.blocks.MarkBlocks.new.Goals as goal

pub invariant_of-result : goal.invariant_of-result
invariant_of-result c = (subst (All IsBlock) (sym c.new.ensures.items) (All-nil IsBlock), c.empty.ensures.block)

pub returns : goal.returns
returns c = held_none c.new.result.items c.empty.result.marks.items c.new.ensures.items c.empty.ensures.marks
