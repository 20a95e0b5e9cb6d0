-- What is bound is bound by the text, and a fault is the first of the text.
use Rattle.std.proofs.Common.{◌≡◌, true, false, sym, subst}
use Rattle.std.specs.Prelude.{All, IfOk, IfErr}
use Rattle.fvn_lex.specs.Parts.{HasPieces}
use Rattle.fvn_problems.specs.Scopes.{unguarded}
use Rattle.fvn_problems.specs.inner.Split.{AreTerms, IsBindingSplit}
use Rattle.fvn_problems.specs.inner.Bound.{TellsOnce, Binds, BindsNothing}
use Rattle.fvn_problems.proofs.BindingTexts.{bindings-formless, bindings-terms, bindings-twice, bindings-ok, bindings-err}
use Rattle.fvn_problems.proofs.bindings.bindings_of.Goals as goal
use Rattle.fvn_problems.proofs.bindings.bindings_of.Goals.{After-as_slice-in-Some}

-- what is known where the text has its form
module _ (c : After-as_slice-in-Some) where
  cut : HasPieces c.args.bytes.now c.as_slice.result.now
  cut = subst (HasPieces c.args.bytes.now) (sym c.as_slice.ensures.value) c.in_ok-row.ensures.ok

  split : IsBindingSplit c.as_slice.result.now c.in-Some.list
  split = rw c.in-Some.is at c.in_ok-split_bindings.ensures.some

  terms : All AreTerms c.in-Some.list
  terms = bindings-terms c.args.signature.now c.args.names.now c.args.problem.now c.args.bytes.now c.as_slice.result.now cut c.in-Some.list split

pub are_once-requires-clause-terms : goal.are_once-requires-clause-terms
are_once-requires-clause-terms c = subst (All AreTerms) (sym c.as_slice-in-Some.ensures) (terms c)

pub bind-requires-clause-terms : goal.bind-requires-clause-terms
bind-requires-clause-terms c = subst (All AreTerms) (sym c.as_slice-in-Some-2.ensures) (terms (goal.at.bind-requires-clause-terms c).After-as_slice-in-Some)

pub returns-then-not-once-clause-err : goal.returns-then-not-once-clause-err
returns-then-not-once-clause-err c =
    let w = (goal.at.returns-then-not-once-clause-err c).After-as_slice-in-Some in
    let u = unguarded c.args.signature.now c.args.names.now in
    let tells = subst (λ b. TellsOnce u c.as_slice-in-Some.result.now b) c.if-not-once.true c.in_ok-once-in-Some.ensures in
    bindings-twice c.args.signature.now c.args.names.now c.args.problem.now c.args.bytes.now c.as_slice.result.now (cut w) c.in-Some.list (split w)
    (subst (λ l. TellsOnce u l false) c.as_slice-in-Some.ensures tells)

pub returns-clause-ok : goal.returns-clause-ok
returns-clause-ok c =
    let w = (goal.at.returns-clause-ok c).After-as_slice-in-Some in
    let u = unguarded c.args.signature.now c.args.names.now in
    let tells = subst (λ b. TellsOnce u c.as_slice-in-Some.result.now b) c.if-not-once.false c.in_ok-once-in-Some.ensures in
    bindings-ok c.args.signature.now c.args.names.now c.args.problem.now c.args.bytes.now c.as_slice.result.now (cut w) c.in-Some.list (split w)
    (subst (λ l. TellsOnce u l true) c.as_slice-in-Some.ensures tells)
    c.bind.result (subst (λ l. IfOk c.bind.result (Binds u c.args.problem.now l)) c.as_slice-in-Some-2.ensures c.bind.ensures.ok)

pub returns-clause-err : goal.returns-clause-err
returns-clause-err c =
    let w = (goal.at.returns-clause-err c).After-as_slice-in-Some in
    let u = unguarded c.args.signature.now c.args.names.now in
    let tells = subst (λ b. TellsOnce u c.as_slice-in-Some.result.now b) c.if-not-once.false c.in_ok-once-in-Some.ensures in
    bindings-err c.args.signature.now c.args.names.now c.args.problem.now c.args.bytes.now c.as_slice.result.now (cut w) c.in-Some.list (split w)
    (subst (λ l. TellsOnce u l true) c.as_slice-in-Some.ensures tells)
    c.bind.result (subst (λ l. IfErr c.bind.result (BindsNothing u c.args.problem.now l)) c.as_slice-in-Some-2.ensures c.bind.ensures.err)

pub returns-in-None-clause-err : goal.returns-in-None-clause-err
returns-in-None-clause-err c =
    let cut = subst (HasPieces c.args.bytes.now) (sym c.as_slice.ensures.value) c.in_ok-row.ensures.ok in
    bindings-formless c.args.signature.now c.args.names.now c.args.problem.now c.args.bytes.now c.as_slice.result.now cut (rw c.in-None.is at c.in_ok-split_bindings.ensures.none)
