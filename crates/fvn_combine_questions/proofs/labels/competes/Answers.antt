-- The solution lacks the column, no other operator is noted of its class, or the class is not shared.
use Rattle.std.proofs.Common.{slice_index, sym, ◌∙◌, subst}
use Rattle.std.proofs.lemmas.Bool.{false≢true}
use Rattle.fvn_combine_leaves.specs.Users.{IsSharedIn}
use Rattle.fvn_combine_questions.specs.inner.Labels.{IsOtherLabel}
use Rattle.fvn_combine_questions.proofs.labels.competes.Goals as goal

pub returns-then-not-has_column : goal.returns-then-not-has_column
returns-then-not-has_column c = λ own. absurd (false≢true (sym c.if-not-has_column.true ∙ c.has_column.ensures.1 own.0))

pub returns-then-not-is_other_label : goal.returns-then-not-is_other_label
returns-then-not-is_other_label c = λ own. absurd (false≢true (sym c.if-not-is_other_label.true ∙ c.is_other_label.ensures
    (subst (λ columns. IsOtherLabel c.args.labels.now c.args.sums.now.operator (slice_index columns c.args.i)) (sym c.as_slice-columns.ensures) own.2)))

pub returns : goal.returns
returns c = λ own. c.is_shared.ensures.1 (subst (λ columns. IsSharedIn c.args.reading.now (slice_index columns c.args.i)) (sym c.as_slice-columns.ensures) own.1)
