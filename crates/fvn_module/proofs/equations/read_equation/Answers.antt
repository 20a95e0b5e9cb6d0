-- What is left to prove.
use Rattle.std.proofs.Common.{[], subst}
use Rattle.fvn_module.specs.inner.Sides.{IsReadRefused}
use Rattle.fvn_module.proofs.SideLemmas.{left-refused}
use Rattle.fvn_module.proofs.equations.read_equation.Goals as goal

pub returns-in-Err-clause-err : goal.returns-in-Err-clause-err
returns-in-Err-clause-err c =
    let no_text = subst (λ t. IsReadRefused c.args.scope.now c.args.sides.now.number t c.pieces.result.now c.in-Err.fault) c.new.ensures c.in-Err.ensures.err in
    let fault = subst (λ p. IsReadRefused c.args.scope.now c.args.sides.now.number [] p c.in-Err.fault) c.pieces.ensures no_text in
    left-refused c.args.scope.now c.args.k c.args.sides.now c.requires c.in-Err.fault fault
