-- The better of two clashes is one.
use Rattle.std.proofs.Common.{◌<◌, length, subst}
use Rattle.fvn_combine_inferring.proofs.Clashes.{either_clash}
use Rattle.fvn_combine_inferring.proofs.clashing.least_clash.Goals as goal

pub clash_at-requires-clause-within : goal.clash_at-requires-clause-within
clash_at-requires-clause-within c = subst (λ ns. c.loop-i.i < length ns) c.nodes-i-end.ensures c.loop-i-test.true

pub loop-i-preserved : goal.loop-i-preserved
loop-i-preserved c =
    either_clash c.args.sig.now c.args.table.now c.args.state.now c.args.known.now.sorted c.loop-i.best c.clash_at.result c.fewer-best.result c.loop-i.invariant c.clash_at.ensures c.fewer-best.ensures
