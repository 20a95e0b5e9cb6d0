-- the blocks and the last one
use Rattle.std.proofs.Common.{sym, subst}
use Rattle.fvn_cover_counts.proofs.blocks.MarkBlocks.with_marks.Goals as goal

pub with_last-requires-clause-full : goal.with_last-requires-clause-full
with_last-requires-clause-full c = c.self.invariant.0

pub with_last-requires-clause-last : goal.with_last-requires-clause-last
with_last-requires-clause-last c = c.self.invariant.1

pub invariant_of-result : goal.invariant_of-result
invariant_of-result c = c.in_ok-both.ensures.blocks

pub returns : goal.returns
returns c = rw c.self.view_is at c.in_ok-both.ensures.marks
