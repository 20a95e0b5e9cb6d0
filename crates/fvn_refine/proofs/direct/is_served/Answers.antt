-- The rank is not low, or its arguments are.
use Rattle.std.proofs.Common.{sym, subst, ◌∙◌}
use Rattle.std.proofs.lemmas.Bool.{false≢true}
use Rattle.fvn_refine.specs.inner.Rows.{IsRowBelow}
use Rattle.fvn_refine.proofs.RowTests.{row_below-true}
use Rattle.fvn_refine.proofs.direct.is_served.Goals as goal

pub returns-then-not-leq : goal.returns-then-not-leq
returns-then-not-leq c = λ _ low. absurd (false≢true (sym c.if-not-leq.true ∙ c.leq.ensures.1 low))

pub returns : goal.returns
returns c = λ yes low.
    subst (λ row. IsRowBelow c.args.sig.now row c.args.args.now) c.as_slice.ensures
    (row_below-true c.args.sig.now c.as_slice.result.now c.args.args.now (sym c.is_row_below.ensures ∙ yes))
