-- What is read is what the text gives, and a fault is the first of the text.
use Rattle.std.proofs.Common.{◌≡◌, true, false, [], sym, ap, subst, ◌∙◌}
use Rattle.std.proofs.lemmas.Result.{IfOk-weaker, IfErr-weaker, err_from_is_err_and}
use Rattle.fvn_lex.specs.Parts.{HasPieces}
use Rattle.fvn_weights_reading.specs.Spelling.{IsWeightText}
use Rattle.fvn_weights_reading.specs.Reading.{IsWeights, RefusesWeights}
use Rattle.fvn_weights_reading.specs.inner.Split.{IsEntriesRow}
use Rattle.fvn_weights_reading.specs.inner.Steps.{are_new, Weigh, WeighNothing}
use Rattle.fvn_weights_reading.proofs.Texts.{cut-fault, no-form-fault, twice-fault, is-text, is-weights, weighs-nothing}
use Rattle.fvn_weights_reading.proofs.reading.weights_in.Goals as goal
use Rattle.fvn_weights_reading.proofs.reading.weights_in.Goals.{After-as_slice-in-Some}

-- what is known where the text has its form
module _ (c : After-as_slice-in-Some) where
  cut : HasPieces c.args.bytes.now c.as_slice.result.now
  cut = subst (HasPieces c.args.bytes.now) (sym c.as_slice.ensures.value) c.in_ok-row.ensures.ok

  split : IsEntriesRow c.as_slice.result.now c.in-Some.list.items
  split = rw c.in-Some.is at c.in_ok-split_entries.ensures.some

pub returns-in_err-row-clause-err : goal.returns-in_err-row-clause-err
returns-in_err-row-clause-err c =
    let p = err_from_is_err_and c.from_residual.result c.from_residual.ensures.1 in
    rw (p.1, p.2) (cut-fault c.args.signature.now c.args.names.now c.args.bytes.now c.in_err-row.field-0.0 c.in_err-row.ensures.err)

pub returns-in-None-clause-err : goal.returns-in-None-clause-err
returns-in-None-clause-err c =
    no-form-fault c.args.signature.now c.args.names.now c.args.bytes.now c.as_slice.result.now (subst (HasPieces c.args.bytes.now) (sym c.as_slice.ensures.value) c.in_ok-row.ensures.ok)
    (rw c.in-None.is at c.in_ok-split_entries.ensures.none)

pub returns-then-not-once-clause-err : goal.returns-then-not-once-clause-err
returns-then-not-once-clause-err c =
    let w = (goal.at.returns-then-not-once-clause-err c).After-as_slice-in-Some in
    twice-fault c.args.signature.now c.args.names.now c.args.bytes.now c.as_slice.result.now (cut w) c.in-Some.list.items (split w)
    (sym (c.in_ok-once-in-Some.ensures ∙ ap (are_new []) c.as_slice-in-Some.ensures.value) ∙ c.if-not-once.true)

pub weights_of-requires-clause-entries : goal.weights_of-requires-clause-entries
weights_of-requires-clause-entries c = rw c.as_slice-in-Some-2.ensures.value (split (goal.at.weights_of-requires-clause-entries c).After-as_slice-in-Some).entries

pub weights_of-requires-clause-once : goal.weights_of-requires-clause-once
weights_of-requires-clause-once c =
    let w = (goal.at.weights_of-requires-clause-once c).After-as_slice-in-Some in
    let new = sym (c.in_ok-once-in-Some.ensures ∙ ap (are_new []) c.as_slice-in-Some.ensures.value) ∙ c.if-not-once.false in
    rw c.as_slice-in-Some-2.ensures.value (is-text c.args.signature.now c.args.names.now c.args.bytes.now c.as_slice.result.now (cut w) c.in-Some.list.items (split w) new).once

pub returns-clause-ok : goal.returns-clause-ok
returns-clause-ok c =
    let w = (goal.at.returns-clause-ok c).After-as_slice-in-Some in
    let new = sym (c.in_ok-once-in-Some.ensures ∙ ap (are_new []) c.as_slice-in-Some.ensures.value) ∙ c.if-not-once.false in
    IfOk-weaker c.weights_of.result (λ ws. Weigh c.args.signature.now c.args.names.now c.as_slice-in-Some-2.result.now ws.list) (IsWeights c.args.signature.now c.args.names.now c.args.bytes.now)
    (λ ws h.
    is-weights c.args.signature.now c.args.names.now c.args.bytes.now c.as_slice.result.now (cut w) c.in-Some.list.items (split w) new ws
    (subst (λ es. Weigh c.args.signature.now c.args.names.now es ws.list) c.as_slice-in-Some-2.ensures.value h))
    c.weights_of.ensures.ok

pub returns-clause-err : goal.returns-clause-err
returns-clause-err c =
    let w = (goal.at.returns-clause-err c).After-as_slice-in-Some in
    let new = sym (c.in_ok-once-in-Some.ensures ∙ ap (are_new []) c.as_slice-in-Some.ensures.value) ∙ c.if-not-once.false in
    IfErr-weaker c.weights_of.result (WeighNothing c.args.signature.now c.args.names.now c.as_slice-in-Some-2.result.now) (RefusesWeights c.args.signature.now c.args.names.now c.args.bytes.now)
    (λ fault h.
    weighs-nothing c.args.signature.now c.args.names.now c.args.bytes.now c.as_slice.result.now (cut w) c.in-Some.list.items (split w) new fault
    (subst (λ es. WeighNothing c.args.signature.now c.args.names.now es fault) c.as_slice-in-Some-2.ensures.value h))
    c.weights_of.ensures.err
