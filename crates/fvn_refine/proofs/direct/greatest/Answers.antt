-- One more variable.
use Rattle.std.proofs.Common.{[], ◌∷◌, refl}
use Rattle.fvn_base.proofs.Membership.{contains_here}
use Rattle.fvn_refine.proofs.Refined.{sorts_none, sorts_next, sorts_all}
use Rattle.fvn_refine.proofs.Greatest.{greatest_above}
use Rattle.fvn_refine.proofs.direct.greatest.Goals as goal

pub loop-x-init : goal.loop-x-init
loop-x-init c =
    sorts_none c.args.search.now.sig.now c.args.vars.now c.args.subst.now c.requires.fits c.requires.bound c.recall_good.ensures c.args.search.now.vars.now
    c.args.kinds.items c.requires.kinds (c.args.kinds.items ∷ []) refl

pub down_value-requires-clause-row : goal.down_value-requires-clause-row
down_value-requires-clause-row c = (c.loop-x.invariant.found c.loop-x.row.items (contains_here c.loop-x.row.items [])).0

pub down_value-requires-clause-sort : goal.down_value-requires-clause-sort
down_value-requires-clause-sort c = (c.requires.bound c.loop-x.x-index _ c.loop-x-test.true).0

pub loop-x-preserved : goal.loop-x-preserved
loop-x-preserved c =
    sorts_next c.args.search.now.sig.now c.args.vars.now c.args.subst.now c.requires.fits c.requires.bound c.recall_good.ensures c.args.search.now.vars.now
    c.loop-x.x-index _ c.loop-x-test.true (c.loop-x.row.items ∷ []) (c.in-Some.next.items ∷ []) c.loop-x.invariant
    (greatest_above c.args.search.now.sig.now c.args.search.now.vars.now c.loop-x.row.items _ c.in-Some.next.items c.in-Some.ensures)

pub returns : goal.returns
returns c =
    sorts_all c.args.search.now.sig.now c.args.vars.now c.args.subst.now c.requires.fits c.requires.bound c.recall_good.ensures c.args.search.now.vars.now
    c.loop-x.x-index c.loop-x-test.false (c.loop-x.row.items ∷ []) c.loop-x.invariant
