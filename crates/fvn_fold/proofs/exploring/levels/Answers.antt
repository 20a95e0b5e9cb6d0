-- one more level
use Rattle.std.proofs.Common.{length, sym, ap, subst, arith}
use Rattle.fvn_cover.specs.Covering.{IsFlatVariant}
use Rattle.fvn_fold.specs.inner.Running.{lists_of, IsEnded, GoesOn}
use Rattle.fvn_fold.proofs.Begins.{explorable_of, explored_first, lists_are}
use Rattle.fvn_fold.proofs.Rounds.{members_kept, kept_with_next, run_on}
use Rattle.fvn_fold.proofs.Turning.{ended_outcome}
use Rattle.fvn_fold.proofs.exploring.levels.Goals as goal

pub first_run-requires : goal.first_run-requires
first_run-requires g c = subst (λ d. IsFlatVariant d c.args.first) c.requires.task.setting.declarations c.requires.first.member.flat

pub loop-run-init : goal.loop-run-init
loop-run-init g c =
    let s = g.E.Expander.setting c.args.task.now.expander.now in
    let drawn = g.E.Expander.drawn c.args.task.now.expander.now in
    let start = c.args.start.now in
    let is = lists_are c.in_ok-run.run' c.args.first c.in_ok-run.ensures in
    let some = c.requires.variants in
    (explored_first s drawn start c.requires.fixed c.args.first (lists_of c.in_ok-run.run') is c.requires.first, omega arith, (let l = ap length c.in_ok-run.ensures.2 in omega (arith, l, some)))

pub next_level-requires-clause-ready : goal.next_level-requires-clause-ready
next_level-requires-clause-ready g c κs within = rw c.as_slice.ensures.value (c.loop-run.invariant.0).ready

pub next_level-requires-clause-members : goal.next_level-requires-clause-members
next_level-requires-clause-members g c κs within =
    let s = g.E.Expander.setting c.args.task.now.expander.now in
    let drawn = g.E.Expander.drawn c.args.task.now.expander.now in
    let start = c.args.start.now in
    rw (c.as_slice.ensures.value, c.as_slice-in-loop-run.ensures.value) (members_kept s drawn start c.loop-run.depth (lists_of c.loop-run.run) c.loop-run.invariant.0)

pub after_level-requires-clause-kept : goal.after_level-requires-clause-kept
after_level-requires-clause-kept g c =
    let s = g.E.Expander.setting c.args.task.now.expander.now in
    let drawn = g.E.Expander.drawn c.args.task.now.expander.now in
    let start = c.args.start.now in
    let next = rw (c.as_slice.ensures.value, c.as_slice-in-loop-run.ensures.value) at c.in_ok-level.ensures in
    kept_with_next s drawn start c.loop-run.depth (lists_of c.loop-run.run) c.loop-run.invariant.0 c.in_ok-level.level.next.items c.in_ok-level.level.end next c.args.task.now.sig.now c.args.task.now.limits c.requires.task.setting.declarations

pub returns-in-Done : goal.returns-in-Done
returns-in-Done g c =
    let s = g.E.Expander.setting c.args.task.now.expander.now in
    let drawn = g.E.Expander.drawn c.args.task.now.expander.now in
    let start = c.args.start.now in
    let d = c.args.task.now.sig.now in
    let limits = c.args.task.now.limits in
    let r = lists_of c.loop-run.run in
    let level = c.in_ok-level.level in
    let explorable = explorable_of s d start c.requires.task.setting c.recall_good.ensures c.recall_completed.ensures c.requires.lawful c.requires.start c.requires.fixed in
    let next = rw (c.as_slice.ensures.value, c.as_slice-in-loop-run.ensures.value) at c.in_ok-level.ensures in
    ended_outcome s drawn start limits c.loop-run.depth r c.loop-run.invariant.0 level.next.items level.end next explorable c.level_runs_are_lawful.ensures c.covering_is_reflexive_and_transitive.ensures c.loop-run.invariant.2 c.loop-run.invariant.1 c.in-Done.x c.coverings_carry_liftings.ensures
    (subst (λ d. IsEnded d limits r c.loop-run.depth level.next.items level.end c.in-Done.x) (sym c.requires.task.setting.declarations) (rw c.in-Done.is at c.in_ok-x.ensures))

pub loop-run-preserved : goal.loop-run-preserved
loop-run-preserved g c =
    let s = g.E.Expander.setting c.args.task.now.expander.now in
    let drawn = g.E.Expander.drawn c.args.task.now.expander.now in
    let start = c.args.start.now in
    let level = c.in_ok-level.level in
    let next = rw (c.as_slice.ensures.value, c.as_slice-in-loop-run.ensures.value) at c.in_ok-level.ensures in
    rw c.level_below-depth.ensures (run_on s drawn start c.loop-run.depth (lists_of c.loop-run.run) c.loop-run.invariant.0 level.next.items level.end next c.args.task.now.sig.now c.args.task.now.limits c.coverings_carry_liftings.ensures (lists_of c.in-On.more) (rw c.in-On.is at c.in_ok-x.ensures))

pub level_below-depth-requires : goal.level_below-depth-requires
level_below-depth-requires g c =
    let on : GoesOn c.args.task.now.sig.now c.args.task.now.limits (lists_of c.loop-run.run) c.loop-run.depth c.in_ok-level.level.next.items c.in_ok-level.level.end (lists_of c.in-On.more) = rw c.in-On.is at c.in_ok-x.ensures in
    on.more_levels
