-- One more statement is tested.
use Rattle.std.proofs.Common.{◌∙◌, sym, ap, inl, inr}
use Rattle.std.proofs.lemmas.Result.{err_from_is_err_and}
use Rattle.fvn_module_names.specs.inner.Testing.{with_past}
use Rattle.fvn_module_names.proofs.Tested.{past-more, named-more, first-fault}
use Rattle.fvn_module_names.proofs.testing.test_statements.Goals as goal

pub returns-in_err-test_statement-clause-err : goal.returns-in_err-test_statement-clause-err
returns-in_err-test_statement-clause-err c =
    let p = err_from_is_err_and c.from_residual.result c.from_residual.ensures.1 in
    let first = first-fault c.args.statements.now c.loop-i.i c.index-statements-i.result c.loop-i-test.true c.index-statements-i.is in
    rw (p.1, p.2) (elim c.in_err-test_statement.ensures.err [
      | inl e ↦ inl e
      | inr e ↦ inr (first (rw c.requires at c.loop-i.invariant.named) c.in_err-test_statement.field-0.0 (rw (c.loop-i.invariant.earlier, c.requires) at e))
    ])

pub loop-i-preserved : goal.loop-i-preserved
loop-i-preserved c =
    let more = past-more c.args.statements.now c.loop-i.i c.index-statements-i.result c.loop-i-test.true c.index-statements-i.is c.args.v.now in
    let passes = rw c.loop-i.invariant.earlier at c.in_ok-test_statement.ensures.passes in
    record {
      earlier = c.in_ok-test_statement.ensures.noted ∙ ap (λ p. with_past c.args.v.now p c.index-statements-i.result) c.loop-i.invariant.earlier ∙ sym more;
      named = named-more c.args.statements.now c.loop-i.i c.index-statements-i.result c.loop-i-test.true c.index-statements-i.is c.args.v.now c.loop-i.invariant.named passes;
    }
