-- one more is refused
use Rattle.std.proofs.Common.{subst}
use Rattle.std.specs.Prelude.{All}
use Rattle.std.proofs.lemmas.Bool.{false≢true}
use Rattle.std.proofs.lemmas.List.{take_all}
use Rattle.fvn_cover_counts.specs.Marks.{RefuseEachOther}
use Rattle.fvn_cover_counts.proofs.Holding.{more_at}
use Rattle.fvn_cover_counts.proofs.blocks.are_all_apart.Goals as goal

pub loop-k-preserved : goal.loop-k-preserved
loop-k-preserved c =
    more_at (RefuseEachOther c.args.out c.args.m.now) c.args.list.now c.loop-k.k-index _ c.loop-k-test.true c.loop-k.invariant
    (c.are_apart.ensures.there c.if-not-are_apart.false, c.are_apart.ensures.back c.if-not-are_apart.false)

pub returns-then-not-are_apart : goal.returns-then-not-are_apart
returns-then-not-are_apart c = λ t. absurd (false≢true t)

pub returns : goal.returns
returns c = λ t. subst (All (RefuseEachOther c.args.out c.args.m.now)) (take_all c.loop-k.k-index c.args.list.now c.loop-k-test.false) c.loop-k.invariant
