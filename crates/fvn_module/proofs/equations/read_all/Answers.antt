-- What is left to prove.
use Rattle.std.proofs.Common.{◌<◌, length, arith}
use Rattle.fvn_module.proofs.EquationLists.{next-read, next-refused}
use Rattle.fvn_module.proofs.equations.read_all.Goals as goal

pub returns-in-Err-clause-err : goal.returns-in-Err-clause-err
returns-in-Err-clause-err c =
    let few : c.loop-i.i < length c.args.list.now = omega (arith, c.loop-i-test.true) in
    next-refused c.args.scope.now c.args.list.now c.loop-i.i c.index-list-i.result c.loop-i.equations.items few c.index-list-i.is c.loop-i.invariant
    c.in-Err.fault c.in-Err.ensures.err

pub loop-i-preserved : goal.loop-i-preserved
loop-i-preserved c =
    let few : c.loop-i.i < length c.args.list.now = omega (arith, c.loop-i-test.true) in
    rw c.in_ok-push-in-Ok.ensures.items
    (next-read c.args.scope.now c.args.list.now c.loop-i.i c.index-list-i.result c.loop-i.equations.items c.in-Ok.equation few c.index-list-i.is
    c.loop-i.invariant c.in-Ok.ensures.ok)
