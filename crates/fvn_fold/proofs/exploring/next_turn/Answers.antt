-- the run with the next level
use Rattle.std.proofs.Common.{◌+◌, sym, ap, ◌∙◌, subst, inr}
use Rattle.fvn_cover.specs.Pruning.{IsPruned}
use Rattle.fvn_fold.specs.inner.Running.{LevelLists, deep_of, AreKept, IsOverOrWhole}
use Rattle.fvn_fold.proofs.exploring.next_turn.Goals as goal

pub finish-requires : goal.finish-requires
finish-requires c = subst (AreKept c.args.sig.now) (sym (ap (λ (l : LevelLists). l.kept) c.in_ok-more.ensures)) c.requires.kept

pub returns-then-not-over : goal.returns-then-not-over
returns-then-not-over c = record {
  more_levels = c.requires.more_levels;
  few = c.requires.few;
  whole = subst (λ b. IsOverOrWhole b c.args.level.next.items c.args.level.end) c.if-not-over.true c.is_over-over.ensures;
  is = c.in_ok-more.ensures;
}

pub returns : goal.returns
returns c = inr (inr record {
  more_levels = c.requires.more_levels;
  few = c.requires.few;
  over = subst (λ b. IsOverOrWhole b c.args.level.next.items c.args.level.end) c.if-not-over.false c.is_over-over.ensures;
  kept = c.in_ok-x.ensures.kept ∙ ap (λ l. deep_of l (c.args.depth + 1)) c.in_ok-more.ensures;
  pruned = subst (λ l. IsPruned c.args.sig.now l c.in_ok-x.x.variants) (ap (λ (l : LevelLists). l.kept) c.in_ok-more.ensures) c.in_ok-x.ensures.pruned;
  is_end = c.in_ok-x.ensures.end ∙ c.into_explore_end.ensures;
})
