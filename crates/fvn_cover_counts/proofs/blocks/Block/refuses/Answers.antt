-- all at once, or one after another
use Rattle.std.proofs.Common.{subst}
use Rattle.std.specs.Prelude.{All}
use Rattle.fvn_cover_counts.specs.Marks.{RefuseEachOther}
use Rattle.fvn_cover_counts.proofs.blocks.Block.refuses.Goals as goal

pub refuses_whole-requires : goal.refuses_whole-requires
refuses_whole-requires c = c.requires

pub returns-then-refuses_whole : goal.returns-then-refuses_whole
returns-then-refuses_whole c = λ t. c.refuses_whole.ensures c.if-refuses_whole.true

pub returns : goal.returns
returns c = λ t. subst (All (RefuseEachOther c.args.out c.args.m.now)) c.as_slice.ensures.value (c.are_all_apart.ensures t)
