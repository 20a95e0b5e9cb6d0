-- What is left to prove.
use Rattle.std.proofs.Common.{subst}
use Rattle.fvn_module.specs.inner.Sides.{IsRead, IsReadRefused}
use Rattle.fvn_module.proofs.SideLemmas.{right-refused, judged-ok, judged-err}
use Rattle.fvn_module.proofs.equations.read_right.Goals as goal

pub returns-in-Ok-clause-ok : goal.returns-in-Ok-clause-ok
returns-in-Ok-clause-ok c =
    let right = subst (λ p. IsRead c.args.scope.now c.args.left.texts p c.in-Ok.right) c.pieces.ensures c.in-Ok.ensures.ok in
    judged-ok c.args.scope.now c.args.k c.args.sides.now c.requires.terms c.args.left c.requires.left c.in-Ok.right right
    c.judge.result c.judge.ensures.ok

pub returns-in-Ok-clause-err : goal.returns-in-Ok-clause-err
returns-in-Ok-clause-err c =
    let right = subst (λ p. IsRead c.args.scope.now c.args.left.texts p c.in-Ok.right) c.pieces.ensures c.in-Ok.ensures.ok in
    judged-err c.args.scope.now c.args.k c.args.sides.now c.requires.terms c.args.left c.requires.left c.in-Ok.right right
    c.judge.result c.judge.ensures.err

pub returns-in-Err-clause-err : goal.returns-in-Err-clause-err
returns-in-Err-clause-err c =
    let fault = subst (λ p. IsReadRefused c.args.scope.now c.args.sides.now.number c.args.left.texts p c.in-Err.fault) c.pieces.ensures c.in-Err.ensures.err in
    right-refused c.args.scope.now c.args.k c.args.sides.now c.requires.terms c.args.left c.requires.left c.in-Err.fault fault
