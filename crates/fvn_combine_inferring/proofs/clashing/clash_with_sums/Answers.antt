-- The better of two clashes is one.
use Rattle.std.proofs.Common.{◌<◌, length, subst}
use Rattle.fvn_combine_inferring.proofs.Clashes.{either_clash}
use Rattle.fvn_combine_inferring.proofs.clashing.clash_with_sums.Goals as goal

pub clash_with_sum-requires-clause-within : goal.clash_with_sum-requires-clause-within
clash_with_sum-requires-clause-within c = subst (λ ns. c.loop-j.j < length ns) c.nodes-j-end.ensures c.loop-j-test.true

pub loop-j-preserved : goal.loop-j-preserved
loop-j-preserved c =
    either_clash c.args.sig.now c.args.table.now c.args.state.now c.args.known.now.sorted c.loop-j.best c.clash_with_sum.result c.fewer-best.result c.loop-j.invariant c.clash_with_sum.ensures c.fewer-best.ensures
