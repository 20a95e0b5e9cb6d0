-- one more chunk
use Rattle.std.proofs.Common.{refl, sym, ◌∙◌, subst, arith}
use Rattle.std.specs.Prelude.{Contains}
use Rattle.std.proofs.lemmas.List.Elements.{All-take, All-drop}
use Rattle.std.proofs.lemmas.Bool.{false≢true}
use Rattle.fvn_fold.specs.inner.Gathering.{IsNextLevel}
use Rattle.fvn_fold.proofs.Nexts.{none_next}
use Rattle.fvn_fold.proofs.Chunks.{next_of_kept, next_joined, next_cut, next_all}
use Rattle.fvn_fold.proofs.levels.next_level.Goals as goal

pub loop-begin-init : goal.loop-begin-init
loop-begin-init g c =
    let s = g.E.Expander.setting c.args.task.now.expander.now in
    let drawn = g.E.Expander.drawn c.args.task.now.expander.now in
    (omega arith, rw c.new-next.ensures.items (none_next s drawn c.args.kept.now))

pub loop-begin-smaller : goal.loop-begin-smaller
loop-begin-smaller g c =
    let some = c.run_workers-workers.ensures.some in
    omega (arith, some)

pub chunk_level-requires-clause-some_workers : goal.chunk_level-requires-clause-some_workers
chunk_level-requires-clause-some_workers g c κs within = c.run_workers-workers.ensures.some

pub chunk_level-requires-clause-few_workers : goal.chunk_level-requires-clause-few_workers
chunk_level-requires-clause-few_workers g c κs within = omega (arith, c.run_workers-workers.ensures.most, c.requires.task.few_workers)

pub chunk_level-requires-clause-members : goal.chunk_level-requires-clause-members
chunk_level-requires-clause-members g c κs within = All-take (Contains c.args.kept.now) _ _ (All-drop (Contains c.args.kept.now) c.loop-begin.begin c.args.members.now c.requires.members)

pub chunk_level-requires-clause-before : goal.chunk_level-requires-clause-before
chunk_level-requires-clause-before g c κs within =
    let s = g.E.Expander.setting c.args.task.now.expander.now in
    let drawn = g.E.Expander.drawn c.args.task.now.expander.now in
    next_of_kept s drawn c.args.kept.now c.requires.ready c.args.members.now c.requires.members c.loop-begin.begin c.loop-begin.next.items _ c.loop-begin.invariant.1

pub returns-then-not-is_whole : goal.returns-then-not-is_whole
returns-then-not-is_whole g c =
    let s = g.E.Expander.setting c.args.task.now.expander.now in
    let drawn = g.E.Expander.drawn c.args.task.now.expander.now in
    next_cut s drawn c.args.kept.now c.requires.ready c.args.members.now c.requires.members c.min-after.result c.in_ok-level.level.next.items c.in_ok-level.level.end (λ w. false≢true (sym c.if-not-is_whole.true ∙ c.is_whole.ensures.1 w))
    (next_joined s drawn c.args.kept.now c.requires.ready c.args.members.now c.requires.members c.loop-begin.begin c.min-after.result _ c.loop-begin.next.items c.in_ok-level.level.next.items c.in_ok-level.level.end (omega (arith, c.loop-begin.invariant.0)) refl c.loop-begin.invariant.1 c.in_ok-level.ensures)

pub loop-begin-preserved : goal.loop-begin-preserved
loop-begin-preserved g c =
    let s = g.E.Expander.setting c.args.task.now.expander.now in
    let drawn = g.E.Expander.drawn c.args.task.now.expander.now in
    let whole = c.is_whole.ensures.0 c.if-not-is_whole.false in (
      omega arith,
      subst (IsNextLevel s drawn c.args.kept.now _ _) whole
          (next_joined s drawn c.args.kept.now c.requires.ready c.args.members.now c.requires.members c.loop-begin.begin c.min-after.result _ c.loop-begin.next.items c.in_ok-level.level.next.items c.in_ok-level.level.end (omega (arith, c.loop-begin.invariant.0)) refl c.loop-begin.invariant.1 c.in_ok-level.ensures),
    )

pub returns : goal.returns
returns g c =
    let s = g.E.Expander.setting c.args.task.now.expander.now in
    let drawn = g.E.Expander.drawn c.args.task.now.expander.now in
    next_all s drawn c.args.kept.now c.requires.ready c.args.members.now c.requires.members c.loop-begin.begin c.loop-begin.next.items _ (omega (arith, c.loop-begin.invariant.0, c.loop-begin-test.false)) c.loop-begin.invariant.1
