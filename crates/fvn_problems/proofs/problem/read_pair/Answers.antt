-- The sides of a pair are read from left to right, and are of one kind.
use Rattle.std.proofs.Common.{◌≡◌, ◌⊎◌, subst}
use Rattle.std.proofs.lemmas.Result.{err_from_is_err_and}
use Rattle.fvn_base.specs.declared.limits.TheConstants.{TEXT_SYMBOLS}
use Rattle.fvn_syntax.specs.declared.fault.TermFault.TheVariants.{NoMemory}
use Rattle.fvn_syntax.specs.Readings.{Reads, Refuses}
use Rattle.fvn_problems.proofs.Pairs.{refuse-right, refuse-kinds, read-both}
use Rattle.fvn_problems.proofs.problem.read_pair.Goals as goal

pub returns-in_err-right-clause-err : goal.returns-in_err-right-clause-err
returns-in_err-right-clause-err c =
    let p = err_from_is_err_and c.from_residual-in_err-right.result c.from_residual-in_err-right.ensures.1 in
    rw (p.1, p.2)
    (refuse-right c.args.scope.now c.args.seen c.args.halves.now (c.in_ok-left.left, c.in_ok-left.seen)
    (subst (λ row. Reads c.args.scope.now TEXT_SYMBOLS c.args.seen row (c.in_ok-left.left, c.in_ok-left.seen)) c.pieces.ensures c.in_ok-left.ensures.ok) c.in_err-right.field-0.0
    (subst (λ row. (c.in_err-right.field-0.0 ≡ NoMemory) ⊎ Refuses c.args.scope.now c.in_ok-left.seen.texts row c.in_err-right.field-0.0) c.pieces-2.ensures c.in_err-right.ensures.err))

pub returns-then-left-right-clause-err : goal.returns-then-left-right-clause-err
returns-then-left-right-clause-err c =
    refuse-kinds c.args.scope.now c.args.seen c.args.halves.now (c.in_ok-left.left, c.in_ok-left.seen)
    (subst (λ row. Reads c.args.scope.now TEXT_SYMBOLS c.args.seen row (c.in_ok-left.left, c.in_ok-left.seen)) c.pieces.ensures c.in_ok-left.ensures.ok)
    (c.in_ok-right.right, c.in_ok-right.seen)
    (subst (λ row. Reads c.args.scope.now TEXT_SYMBOLS c.in_ok-left.seen row (c.in_ok-right.right, c.in_ok-right.seen)) c.pieces-2.ensures c.in_ok-right.ensures.ok)
    c.if-left-right.true

pub returns-clause-ok : goal.returns-clause-ok
returns-clause-ok c =
    read-both c.args.scope.now c.args.seen c.args.halves.now (c.in_ok-left.left, c.in_ok-left.seen)
    (subst (λ row. Reads c.args.scope.now TEXT_SYMBOLS c.args.seen row (c.in_ok-left.left, c.in_ok-left.seen)) c.pieces.ensures c.in_ok-left.ensures.ok)
    (c.in_ok-right.right, c.in_ok-right.seen)
    (subst (λ row. Reads c.args.scope.now TEXT_SYMBOLS c.in_ok-left.seen row (c.in_ok-right.right, c.in_ok-right.seen)) c.pieces-2.ensures c.in_ok-right.ensures.ok)
    c.if-left-right.false
