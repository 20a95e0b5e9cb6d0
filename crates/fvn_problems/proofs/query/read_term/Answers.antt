-- Facts of what is asked.
use Rattle.fvn_terms.specs.Plain.{term}
use Rattle.fvn_terms.specs.Signature.{IsTerm}
use Rattle.std.proofs.lemmas.Result.{IfOk-weaker, IfErr-weaker}
use Rattle.fvn_problems.specs.Queries.{IsQuery, IsOnlyQuery, RefusesQuery, HasNoQuery, HasVariables}
use Rattle.fvn_problems.proofs.QueryTexts.{query-only, query-kinded, query-vars, query-none}
use Rattle.fvn_problems.proofs.query.read_term.Goals as goal

pub returns-clause-only : goal.returns-clause-only
returns-clause-only c =
    IfOk-weaker c.query_of.result (IsQuery c.args.signature.now c.args.names.now c.args.bytes.now) (IsOnlyQuery c.args.signature.now c.args.names.now c.args.bytes.now)
    (query-only c.args.signature.now c.args.names.now c.args.bytes.now) c.query_of.ensures.ok

pub returns-clause-kinded : goal.returns-clause-kinded
returns-clause-kinded c =
    IfOk-weaker c.query_of.result (IsQuery c.args.signature.now c.args.names.now c.args.bytes.now) (λ p. IsTerm c.args.signature.now (term p.term))
    (query-kinded c.args.signature.now c.args.names.now c.args.bytes.now c.terms_are_well_kinded.ensures c.requires) c.query_of.ensures.ok

pub returns-clause-vars : goal.returns-clause-vars
returns-clause-vars c =
    IfOk-weaker c.query_of.result (IsQuery c.args.signature.now c.args.names.now c.args.bytes.now) (HasVariables c.args.signature.now)
    (query-vars c.args.signature.now c.args.names.now c.args.bytes.now c.terms_are_well_kinded.ensures c.requires) c.query_of.ensures.ok

pub returns-clause-none : goal.returns-clause-none
returns-clause-none c =
    IfErr-weaker c.query_of.result (RefusesQuery c.args.signature.now c.args.names.now c.args.bytes.now) (HasNoQuery c.args.signature.now c.args.names.now c.args.bytes.now)
    (query-none c.args.signature.now c.args.names.now c.args.bytes.now) c.query_of.ensures.err
