-- One more variable.
use Rattle.std.proofs.Common.{take, ◌∙◌}
use Rattle.fvn_refine.specs.inner.Found.{HaveSorts}
use Rattle.fvn_refine.proofs.Finding.{rows_found}
use Rattle.fvn_refine.proofs.Refined.{sorts_none, sorts_next, sorts_all}
use Rattle.fvn_refine.proofs.refining.all_largest.Goals as goal

pub loop-x-init : goal.loop-x-init
loop-x-init c =
    sorts_none c.args.search.now.sig.now c.args.vars.now c.args.subst.now c.requires.fits c.requires.bound c.recall_good.ensures c.args.search.now.vars.now
    c.as_slice.result.now (c.as_slice.ensures.value ∙ c.in_ok-start.ensures) c.in_ok-rows.rows.items c.in_ok-rows.ensures

pub lower_value-requires-clause-rows : goal.lower_value-requires-clause-rows
lower_value-requires-clause-rows c =
    let d = c.args.search.now.sig.now in
    let xs = c.args.search.now.vars.now in
    rows_found d xs (HaveSorts d xs c.args.subst.now (take c.loop-x.x-index c.args.vars.now)) c.loop-x.rows.items c.loop-x.invariant

pub lower_value-requires-clause-apart : goal.lower_value-requires-clause-apart
lower_value-requires-clause-apart c = c.loop-x.invariant.apart

pub lower_value-requires-clause-sort : goal.lower_value-requires-clause-sort
lower_value-requires-clause-sort c = (c.requires.bound c.loop-x.x-index _ c.loop-x-test.true).0

pub lower_value-requires-clause-bound : goal.lower_value-requires-clause-bound
lower_value-requires-clause-bound c = (c.requires.bound c.loop-x.x-index _ c.loop-x-test.true).1

pub loop-x-preserved : goal.loop-x-preserved
loop-x-preserved c =
    sorts_next c.args.search.now.sig.now c.args.vars.now c.args.subst.now c.requires.fits c.requires.bound c.recall_good.ensures c.args.search.now.vars.now
    c.loop-x.x-index _ c.loop-x-test.true c.loop-x.rows.items c.in_ok-rows-2.rows.items c.loop-x.invariant c.in_ok-rows-2.ensures

pub returns : goal.returns
returns c =
    sorts_all c.args.search.now.sig.now c.args.vars.now c.args.subst.now c.requires.fits c.requires.bound c.recall_good.ensures c.args.search.now.vars.now
    c.loop-x.x-index c.loop-x-test.false c.loop-x.rows.items c.loop-x.invariant
