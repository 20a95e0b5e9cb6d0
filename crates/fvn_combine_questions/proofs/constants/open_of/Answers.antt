-- One more class.
use Rattle.std.proofs.Common.{ℕ, sym, ◌∙◌}
use Rattle.std.proofs.lemmas.Bool.{false≢true}
use Rattle.fvn_combine_questions.proofs.Walked.{more_of, all_of}
use Rattle.fvn_combine_questions.specs.inner.Past.{ArePastClasses}
use Rattle.fvn_combine_leaves.specs.Users.{CanBeConstant}
use Rattle.fvn_combine_questions.proofs.constants.open_of.Goals as goal

pub loop-k-preserved-then-not-may_be_constant : goal.loop-k-preserved-then-not-may_be_constant
loop-k-preserved-then-not-may_be_constant c =
    let e = c.args.sums.now in
    let past = λ (k : ℕ). CanBeConstant c.args.reading.now e k → ArePastClasses c.args.state.now c.args.reading.now e k e.columns in
    more_of past c.as_slice-k-items.result.now e.columns c.as_slice-k-items.ensures c.loop-k.k-index 0 c.loop-k-test.true c.loop-k.invariant
    (λ can. absurd (false≢true (sym c.if-not-may_be_constant.true ∙ c.may_be_constant.ensures.1 can)))

pub loop-k-preserved : goal.loop-k-preserved
loop-k-preserved c =
    let e = c.args.sums.now in
    let past = λ (k : ℕ). CanBeConstant c.args.reading.now e k → ArePastClasses c.args.state.now c.args.reading.now e k e.columns in
    more_of past c.as_slice-k-items.result.now e.columns c.as_slice-k-items.ensures c.loop-k.k-index 0 c.loop-k-test.true c.loop-k.invariant
    (λ can. c.in-None.ensures)

pub returns : goal.returns
returns c =
    let e = c.args.sums.now in
    let past = λ (k : ℕ). CanBeConstant c.args.reading.now e k → ArePastClasses c.args.state.now c.args.reading.now e k e.columns in
    all_of past c.as_slice-k-items.result.now e.columns c.as_slice-k-items.ensures c.loop-k.k-index c.loop-k-test.false c.loop-k.invariant
