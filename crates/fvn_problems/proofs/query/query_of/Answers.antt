-- A fault is the first of the text.
use Rattle.std.proofs.Common.{sym, ap, subst, ◌∙◌}
use Rattle.std.specs.Prelude.{IfErr}
use Rattle.fvn_lex.specs.Parts.{HasPieces}
use Rattle.fvn_problems.specs.Scopes.{guarded}
use Rattle.fvn_problems.specs.inner.Steps.{AsksNoTerm}
use Rattle.fvn_problems.proofs.QueryTexts.{query-formless, query-err}
use Rattle.fvn_problems.proofs.query.query_of.Goals as goal

pub returns-clause-err : goal.returns-clause-err
returns-clause-err c =
    let split = rw c.in-Some.is at c.in_ok-split_query.ensures.some in
    let cut = subst (HasPieces c.args.bytes.now) (sym c.as_slice.ensures.value) c.in_ok-row.ensures.ok in
    let scope = c.new-scope.ensures ∙ ap (λ d. guarded d c.args.names.now) c.declarations.ensures in
    let told = subst (λ l. IfErr c.ask.result (AsksNoTerm c.new-scope.result l)) c.pieces.ensures c.ask.ensures.err in
    query-err c.args.signature.now c.args.names.now c.args.bytes.now c.as_slice.result.now cut c.in-Some.row split c.ask.result
    (subst (λ s. IfErr c.ask.result (AsksNoTerm s c.in-Some.row)) scope told)

pub returns-in-None-clause-err : goal.returns-in-None-clause-err
returns-in-None-clause-err c =
    let cut = subst (HasPieces c.args.bytes.now) (sym c.as_slice.ensures.value) c.in_ok-row.ensures.ok in
    query-formless c.args.signature.now c.args.names.now c.args.bytes.now c.as_slice.result.now cut (rw c.in-None.is at c.in_ok-split_query.ensures.none)
