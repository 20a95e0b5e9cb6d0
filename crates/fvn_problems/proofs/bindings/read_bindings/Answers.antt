-- Facts of what is bound.
use Rattle.std.proofs.lemmas.Result.{IfOk-weaker, IfErr-weaker}
use Rattle.fvn_terms.specs.Sorts.{IsWellSorted}
use Rattle.fvn_terms.specs.Substitution.{value}
use Rattle.fvn_problems.specs.Bindings.{IsBindings, IsOnlyBindings, RefusesBindings, HasNoBindings, AreOfProblem, AreDistinct, AreNotFresh}
use Rattle.fvn_problems.proofs.BindingTexts.{bindings-only, bindings-none, bindings-known, bindings-distinct, bindings-old, bindings-sorted}
use Rattle.fvn_problems.proofs.bindings.read_bindings.Goals as goal

pub returns-clause-only : goal.returns-clause-only
returns-clause-only c =
    IfOk-weaker c.bindings_of.result (IsBindings c.args.signature.now c.args.names.now c.args.problem.now c.args.bytes.now)
    (IsOnlyBindings c.args.signature.now c.args.names.now c.args.problem.now c.args.bytes.now)
    (bindings-only c.args.signature.now c.args.names.now c.args.problem.now c.args.bytes.now c.are_distinct.ensures) c.bindings_of.ensures.ok

pub returns-clause-known : goal.returns-clause-known
returns-clause-known c =
    IfOk-weaker c.bindings_of.result (IsBindings c.args.signature.now c.args.names.now c.args.problem.now c.args.bytes.now) (AreOfProblem c.args.problem.now)
    (bindings-known c.args.signature.now c.args.names.now c.args.problem.now c.args.bytes.now) c.bindings_of.ensures.ok

pub returns-clause-once : goal.returns-clause-once
returns-clause-once c =
    IfOk-weaker c.bindings_of.result (IsBindings c.args.signature.now c.args.names.now c.args.problem.now c.args.bytes.now) AreDistinct
    (bindings-distinct c.args.signature.now c.args.names.now c.args.problem.now c.args.bytes.now) c.bindings_of.ensures.ok

pub returns-clause-well_sorted : goal.returns-clause-well_sorted
returns-clause-well_sorted c =
    IfOk-weaker c.bindings_of.result (IsBindings c.args.signature.now c.args.names.now c.args.problem.now c.args.bytes.now) (λ b. IsWellSorted c.args.signature.now (value b.subst.pairs))
    (bindings-sorted c.args.signature.now c.args.names.now c.args.problem.now c.args.bytes.now c.terms_are_well_kinded.ensures c.requires) c.bindings_of.ensures.ok

pub returns-clause-not_fresh : goal.returns-clause-not_fresh
returns-clause-not_fresh c =
    IfOk-weaker c.bindings_of.result (IsBindings c.args.signature.now c.args.names.now c.args.problem.now c.args.bytes.now) AreNotFresh
    (bindings-old c.args.signature.now c.args.names.now c.args.problem.now c.args.bytes.now) c.bindings_of.ensures.ok

pub returns-clause-none : goal.returns-clause-none
returns-clause-none c =
    IfErr-weaker c.bindings_of.result (RefusesBindings c.args.signature.now c.args.names.now c.args.problem.now c.args.bytes.now)
    (HasNoBindings c.args.signature.now c.args.names.now c.args.problem.now c.args.bytes.now)
    (bindings-none c.args.signature.now c.args.names.now c.args.problem.now c.args.bytes.now c.are_distinct.ensures) c.bindings_of.ensures.err
