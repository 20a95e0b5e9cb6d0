-- One more pair is read, or has the first fault.
use Rattle.std.proofs.lemmas.Result.{err_from_is_err_and}
use Rattle.fvn_problems.proofs.Pairs.{one-more, refuse-here}
use Rattle.fvn_problems.proofs.problem.read_pairs.Goals as goal

pub loop-halves-preserved : goal.loop-halves-preserved
loop-halves-preserved c =
    one-more c.args.scope.now c.args.list.now c.loop-halves.halves-index c.loop-halves.pairs.items c.loop-halves.seen c.halves-item.result c.loop-halves.invariant c.loop-halves-test.true c.halves-item.is
    (c.in_ok-pair.pair, c.in_ok-pair.next) c.push.new.self.items c.in_ok-pair.ensures.ok c.in_ok-push.ensures.items

pub returns-in_err-pair-clause-err : goal.returns-in_err-pair-clause-err
returns-in_err-pair-clause-err c =
    let p = err_from_is_err_and c.from_residual.result c.from_residual.ensures.1 in
    rw (p.1, p.2)
    (refuse-here c.args.scope.now c.args.list.now c.loop-halves.halves-index c.loop-halves.pairs.items c.loop-halves.seen c.halves-item.result c.loop-halves.invariant c.loop-halves-test.true c.halves-item.is
    c.in_err-pair.field-0.0 c.in_err-pair.ensures.err)
