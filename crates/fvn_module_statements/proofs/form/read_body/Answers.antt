-- A turn of the loop reads one statement.
use Rattle.std.proofs.Common.{◌+◌, length, sym, ap, ◌∙◌, inr}
use Rattle.std.proofs.lemmas.Bool.{eqb-true, eqb-false}
use Rattle.std.proofs.lemmas.List.{nil_from_length}
use Rattle.fvn_module_statements.specs.inner.Forms.{split_dot}
use Rattle.fvn_module_statements.specs.inner.Statements.{statement_of}
use Rattle.fvn_module_statements.proofs.BodyReading.{from-end, turn-over, turn-none, turn-read, turn-left_out, turn-no_form}
use Rattle.fvn_module_statements.proofs.form.read_body.Goals as goal

pub returns-then-is_empty-clause-ok : goal.returns-then-is_empty-clause-ok
returns-then-is_empty-clause-ok c =
    let empty = rw c.pieces-in_default.ensures at c.if-is_empty.ensures in
    rw c.from_vec.ensures
    (c.loop-i.invariant
    ∙ turn-over c.args.row.now c.loop-i.i (c.loop-i.i + 1) c.loop-i.list.items c.loop-i.rest c.loop-i-test.true
    (ap split_dot (sym c.pieces.ensures) ∙ sym c.split_dot.ensures ∙ c.in_default.is)
    (nil_from_length c.loop-i.rest (eqb-true (length c.loop-i.rest) 0 (sym empty))))

pub returns-in_default-clause-err : goal.returns-in_default-clause-err
returns-in_default-clause-err c =
    let more = rw c.pieces-in_default.ensures at c.if-is_empty.ensures in
    inr (c.loop-i.invariant
    ∙ turn-none c.args.row.now c.loop-i.i (c.loop-i.i + 1) c.loop-i.list.items c.loop-i.rest c.loop-i-test.true
    (ap split_dot (sym c.pieces.ensures) ∙ sym c.split_dot.ensures ∙ c.in_default.is)
    (eqb-false (length c.loop-i.rest) 0 (sym more)))

pub returns-in-LeftOut-clause-err : goal.returns-in-LeftOut-clause-err
returns-in-LeftOut-clause-err c =
    inr (c.loop-i.invariant
    ∙ turn-left_out c.args.row.now c.loop-i.i (c.loop-i.i + 1) c.loop-i.list.items c.loop-i.rest c.loop-i-test.true
    c.in-Some.statement c.in-Some.after (ap split_dot (sym c.pieces.ensures) ∙ sym c.split_dot.ensures ∙ c.in-Some.is)
    c.in-LeftOut.feature (ap statement_of (sym c.pieces-in-loop-i.ensures) ∙ sym c.in_ok-statement.ensures ∙ c.in-LeftOut.is))

pub returns-in-NoForm-clause-err : goal.returns-in-NoForm-clause-err
returns-in-NoForm-clause-err c =
    inr (c.loop-i.invariant
    ∙ turn-no_form c.args.row.now c.loop-i.i (c.loop-i.i + 1) c.loop-i.list.items c.loop-i.rest c.loop-i-test.true
    c.in-Some.statement c.in-Some.after (ap split_dot (sym c.pieces.ensures) ∙ sym c.split_dot.ensures ∙ c.in-Some.is)
    (ap statement_of (sym c.pieces-in-loop-i.ensures) ∙ sym c.in_ok-statement.ensures ∙ c.in-NoForm.is))

pub loop-i-preserved : goal.loop-i-preserved
loop-i-preserved c =
    rw c.in_ok-push-in-Read.ensures.items
    (c.loop-i.invariant
    ∙ turn-read c.args.row.now c.loop-i.i (c.loop-i.i + 1) c.loop-i.list.items c.loop-i.rest c.loop-i-test.true
    c.in-Some.statement c.in-Some.after (ap split_dot (sym c.pieces.ensures) ∙ sym c.split_dot.ensures ∙ c.in-Some.is)
    c.in-Read.statement (ap statement_of (sym c.pieces-in-loop-i.ensures) ∙ sym c.in_ok-statement.ensures ∙ c.in-Read.is))

pub returns-clause-ok : goal.returns-clause-ok
returns-clause-ok c =
    rw c.from_vec-2.ensures
    (c.loop-i.invariant
    ∙ from-end c.args.row.now c.loop-i.i (c.loop-i.i + 1) c.loop-i.list.items c.loop-i.rest c.loop-i-test.false)
