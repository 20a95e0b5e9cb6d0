-- one more block
use Rattle.std.proofs.Common.{subst}
use Rattle.std.specs.Prelude.{All}
use Rattle.std.proofs.lemmas.Bool.{false≢true}
use Rattle.std.proofs.lemmas.List.{take_all}
use Rattle.fvn_cover_counts.specs.Marks.{RefuseEachOther}
use Rattle.fvn_cover_counts.specs.inner.Blocks.{HoldsIn, IsBlock}
use Rattle.fvn_cover_counts.proofs.Refusals.{more_hold, one_holds}
use Rattle.fvn_cover_counts.proofs.Holding.{held_all}
use Rattle.fvn_cover_counts.proofs.blocks.are_refused.Goals as goal

pub refuses-requires : goal.refuses-requires
refuses-requires c = one_holds IsBlock c.args.blocks.now c.loop-b.b-index c.b-item.result c.loop-b-test.true c.b-item.is c.requires

pub loop-b-preserved : goal.loop-b-preserved
loop-b-preserved c =
    more_hold (HoldsIn (RefuseEachOther c.args.out c.args.m.now)) c.args.blocks.now c.loop-b.b-index c.b-item.result c.loop-b-test.true c.b-item.is c.loop-b.invariant
    (c.refuses.ensures c.if-not-refuses.false)

pub returns-then-not-refuses : goal.returns-then-not-refuses
returns-then-not-refuses c = λ t. absurd (false≢true t)

pub returns : goal.returns
returns c = λ t.
    held_all (RefuseEachOther c.args.out c.args.m.now) c.args.blocks.now
    (subst (All (HoldsIn (RefuseEachOther c.args.out c.args.m.now))) (take_all c.loop-b.b-index c.args.blocks.now c.loop-b-test.false) c.loop-b.invariant)
