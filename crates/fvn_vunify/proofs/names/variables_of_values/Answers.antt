-- One more value, and in the end all.
use Rattle.std.proofs.Common.{◌<◌, ◌≤◌, length, subst}
use Rattle.fvn_vunify.proofs.NewNames.{values_step, values_whole}
use Rattle.fvn_vunify.proofs.names.variables_of_values.Goals as goal

pub loop-x-preserved : goal.loop-x-preserved
loop-x-preserved c =
    values_step c.args.v.now c.loop-x.x-index _ c.loop-x.vars.items c.in_ok-vars.vars.items (subst (λ l. c.loop-x.x-index < length l) c.as_slice-x-items.ensures c.loop-x-test.true) (rw c.as_slice-x-items.ensures at c.in_ok-vars.ensures) c.loop-x.invariant

pub returns : goal.returns
returns c = values_whole c.args.v.now c.loop-x.x-index c.loop-x.vars.items (subst (λ l. length l ≤ c.loop-x.x-index) c.as_slice-x-items.ensures c.loop-x-test.false) c.loop-x.invariant
