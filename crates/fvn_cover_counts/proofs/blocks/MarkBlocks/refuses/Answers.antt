-- the last block, and all others
use Rattle.std.proofs.Common.{sym, subst}
use Rattle.std.specs.Prelude.{All}
use Rattle.std.proofs.lemmas.Bool.{false≢true}
use Rattle.fvn_cover_counts.specs.Marks.{RefuseEachOther}
use Rattle.fvn_cover_counts.specs.inner.Blocks.{IsBlock}
use Rattle.fvn_cover_counts.proofs.Holding.{held_whole}
use Rattle.fvn_cover_counts.proofs.blocks.MarkBlocks.refuses.Goals as goal

pub refuses-requires : goal.refuses-requires
refuses-requires c = c.self.invariant.1

pub are_refused-requires : goal.are_refused-requires
are_refused-requires c = subst (All IsBlock) (sym c.as_slice.ensures.value) c.self.invariant.0

pub returns-then-not-refuses : goal.returns-then-not-refuses
returns-then-not-refuses c = λ t. absurd (false≢true t)

pub returns : goal.returns
returns c = λ t.
    held_whole (RefuseEachOther c.args.out c.args.m.now) c.self.inside.full.items c.as_slice.result.now c.self.inside.last c.args.self.now c.as_slice.ensures.value c.self.view_is
    (c.are_refused.ensures t) (c.refuses.ensures c.if-not-refuses.false)
