-- in the last block, or behind it
use Rattle.std.proofs.Common.{sym, subst}
use Rattle.std.specs.Prelude.{All}
use Rattle.std.proofs.lemmas.List.Elements.{All-push}
use Rattle.fvn_cover_counts.specs.inner.Blocks.{IsBlock}
use Rattle.fvn_cover_counts.proofs.Holding.{held_longer, held_behind}
use Rattle.fvn_cover_counts.proofs.blocks.with_last.Goals as goal

pub longer-requires-clause-out : goal.longer-requires-clause-out
longer-requires-clause-out c = c.takes.ensures c.if-takes.true

pub longer-requires-clause-block : goal.longer-requires-clause-block
longer-requires-clause-block c = c.requires.last

pub returns-then-takes : goal.returns-then-takes
returns-then-takes c = record {
  blocks = (c.requires.full, c.in_ok-more.ensures.block);
  marks = held_longer c.args.full.items c.args.last c.args.m c.in_ok-more.more c.in_ok-more.ensures.marks;
}

pub returns : goal.returns
returns c = record {
  blocks = (subst (All IsBlock) (sym c.in_ok-push.ensures.items) (All-push IsBlock c.args.full.items c.args.last c.requires.full c.requires.last), c.in_ok-one.ensures.block);
  marks = held_behind c.args.full.items c.args.last c.args.m _ c.in_ok-one.one c.in_ok-push.ensures.items c.in_ok-one.ensures.marks;
}
