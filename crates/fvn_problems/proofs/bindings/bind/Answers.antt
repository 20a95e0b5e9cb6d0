-- One more binding is read, or has the first fault; then the sizes are told.
use Rattle.std.proofs.Common.{inl, sym, subst}
use Rattle.std.proofs.lemmas.Result.{err_from_is_err_and}
use Rattle.fvn_problems.specs.Scopes.{unguarded}
use Rattle.fvn_problems.specs.inner.Bound.{Binds}
use Rattle.fvn_problems.proofs.Binding.{one-bound, refuse-here, binds, too-large}
use Rattle.fvn_problems.proofs.BindingTexts.{make}
use Rattle.fvn_problems.proofs.bindings.bind.Goals as goal

pub returns-in_err-pair-clause-err : goal.returns-in_err-pair-clause-err
returns-in_err-pair-clause-err c =
    let p = err_from_is_err_and c.from_residual-in_err-pair.result c.from_residual-in_err-pair.ensures.1 in
    rw (p.1, p.2)
    (refuse-here (unguarded c.args.signature.now c.args.names.now) c.args.problem.now c.args.list.now c.loop-halves.halves-index c.loop-halves.pairs.items c.loop-halves.texts c.loop-halves.most
    c.halves-item.result c.loop-halves.invariant c.loop-halves-test.true c.halves-item.is c.in_err-pair.field-0.0 c.in_err-pair.ensures.err)

pub returns-in_err-push-clause-err : goal.returns-in_err-push-clause-err
returns-in_err-push-clause-err c =
    let p = err_from_is_err_and c.from_residual-in_err-push.result c.from_residual-in_err-push.ensures.1 in
    rw p.1 (λ raws of. inl p.2)

pub loop-halves-preserved : goal.loop-halves-preserved
loop-halves-preserved c =
    one-bound (unguarded c.args.signature.now c.args.names.now) c.args.problem.now c.args.list.now c.loop-halves.halves-index c.loop-halves.pairs.items c.loop-halves.texts c.loop-halves.most
    c.halves-item.result c.loop-halves.invariant c.loop-halves-test.true c.halves-item.is
    (c.in_ok-pair.pair, c.in_ok-pair.seen) c.push.new.self.items c.max-most.result c.in_ok-pair.ensures.ok c.in_ok-push.ensures.items c.max-most.ensures

pub returns-then-most-gt-SYMBOLS-clause-err : goal.returns-then-most-gt-SYMBOLS-clause-err
returns-then-most-gt-SYMBOLS-clause-err c =
    too-large (unguarded c.args.signature.now c.args.names.now) c.args.problem.now c.args.list.now c.loop-halves.halves-index c.loop-halves.pairs.items c.loop-halves.texts c.loop-halves.most
    c.loop-halves.invariant c.loop-halves-test.false c.if-most-gt-SYMBOLS.true

pub returns-clause-ok : goal.returns-clause-ok
returns-clause-ok c =
    subst (λ ps. Binds (unguarded c.args.signature.now c.args.names.now) c.args.problem.now c.args.list.now (make ps)) (sym c.from_vec.ensures)
    (binds (unguarded c.args.signature.now c.args.names.now) c.args.problem.now c.args.list.now c.loop-halves.halves-index c.loop-halves.pairs.items c.loop-halves.texts c.loop-halves.most
    c.loop-halves.invariant c.loop-halves-test.false c.if-most-gt-SYMBOLS.false)
