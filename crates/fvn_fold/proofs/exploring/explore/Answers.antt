-- from the first variant on, or an exploration that ends before anything is kept
use Rattle.fvn_fold.specs.inner.Beginning.{IsEarlyEnd}
use Rattle.fvn_fold.proofs.Begins.{early}
use Rattle.fvn_fold.proofs.exploring.explore.Goals as goal

pub levels-requires-clause-task : goal.levels-requires-clause-task
levels-requires-clause-task g c κs within = record { setting = c.requires.setting; some_workers = c.requires.workers.0; few_workers = c.requires.workers.1 }

pub levels-requires-clause-fixed : goal.levels-requires-clause-fixed
levels-requires-clause-fixed g c κs within = c.requires.fixed.over

pub levels-requires-clause-first : goal.levels-requires-clause-first
levels-requires-clause-first g c κs within = rw c.in-Start.is at c.in_ok-first.ensures.begun

pub returns-in-End : goal.returns-in-End
returns-in-End g c =
    let s = g.E.Expander.setting c.args.expander.now in
    let drawn = g.E.Expander.drawn c.args.expander.now in
    let h : IsEarlyEnd s drawn c.args.start.now c.in-End.end = rw c.in-End.is at c.in_ok-first.ensures.begun in
    record { exploration = early s drawn c.args.start.now c.args.limits (record { kept = c.new.result; variants = c.new-in-End.result; end = c.in-End.end }) c.new.ensures c.in_ok-first.ensures.lawful c.requires.fixed.over c.new-in-End.ensures h }
