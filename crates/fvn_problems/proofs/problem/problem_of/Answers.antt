-- What is asked is asked by the text, and a fault is the first of the text.
use Rattle.std.proofs.Common.{sym, ap, subst, ◌∙◌}
use Rattle.std.specs.Prelude.{All, IfErr}
use Rattle.fvn_lex.specs.Parts.{HasPieces}
use Rattle.fvn_problems.specs.Scopes.{guarded}
use Rattle.fvn_problems.specs.inner.Split.{AreTerms}
use Rattle.fvn_problems.specs.inner.Steps.{AsksNothing}
use Rattle.fvn_problems.proofs.ProblemTexts.{problem-formless, split-terms, problem-err}
use Rattle.fvn_problems.proofs.problem.problem_of.Goals as goal

pub ask-requires : goal.ask-requires
ask-requires c =
    let split = rw c.in-Some.is at c.in_ok-split_problem.ensures.some in
    subst (All AreTerms) (sym c.as_slice-in-Some.ensures) (split-terms c.as_slice.result.now c.in-Some.list split)

pub returns-clause-err : goal.returns-clause-err
returns-clause-err c =
    let split = rw c.in-Some.is at c.in_ok-split_problem.ensures.some in
    let cut = subst (HasPieces c.args.bytes.now) (sym c.as_slice.ensures.value) c.in_ok-row.ensures.ok in
    let scope = c.new-scope.ensures ∙ ap (λ d. guarded d c.args.names.now) c.declarations.ensures in
    let told = subst (λ l. IfErr c.ask.result (AsksNothing c.new-scope.result l)) c.as_slice-in-Some.ensures c.ask.ensures.err in
    problem-err c.args.signature.now c.args.names.now c.args.bytes.now c.as_slice.result.now cut c.in-Some.list split c.ask.result
    (subst (λ s. IfErr c.ask.result (AsksNothing s c.in-Some.list)) scope told)

pub returns-in-None-clause-err : goal.returns-in-None-clause-err
returns-in-None-clause-err c =
    let cut = subst (HasPieces c.args.bytes.now) (sym c.as_slice.ensures.value) c.in_ok-row.ensures.ok in
    problem-formless c.args.signature.now c.args.names.now c.args.bytes.now c.as_slice.result.now cut (rw c.in-None.is at c.in_ok-split_problem.ensures.none)
