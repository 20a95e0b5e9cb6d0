-- One more operator.
use Rattle.std.proofs.Common.{subst}
use Rattle.fvn_combine_questions.proofs.Walked.{more_of, all_of}
use Rattle.fvn_combine_leaves.specs.declared.reading.Sums.{Sums}
use Rattle.fvn_combine_questions.specs.inner.Past.{ArePastPairs}
use Rattle.fvn_combine_questions.proofs.constants.open_of_any.Goals as goal

pub loop-s-preserved : goal.loop-s-preserved
loop-s-preserved c =
    let past = λ (e : Sums). ArePastPairs c.args.state.now c.args.reading.now e e.columns in
    more_of past c.as_slice-s-items.result.now c.args.reading.now.sums c.as_slice-s-items.ensures c.loop-s.s-index c.s-item.result c.loop-s-test.true c.loop-s.invariant
    (subst past c.s-item.is c.in-None.ensures)

pub returns : goal.returns
returns c = all_of (λ e. ArePastPairs c.args.state.now c.args.reading.now e e.columns) c.as_slice-s-items.result.now c.args.reading.now.sums c.as_slice-s-items.ensures c.loop-s.s-index c.loop-s-test.false c.loop-s.invariant
