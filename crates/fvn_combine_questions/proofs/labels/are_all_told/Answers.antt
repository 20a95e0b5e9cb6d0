-- One more solution.
use Rattle.std.proofs.Common.{◌<◌, slice_index, sym, ◌∙◌, refl, subst}
use Rattle.std.proofs.lemmas.Bool.{false≢true}
use Rattle.fvn_lindio.specs.declared.system.Solution.{Solution}
use Rattle.fvn_combine_questions.specs.inner.Labels.{IsToldFrom}
use Rattle.fvn_combine_questions.proofs.Walked.{more_of, all_of}
use Rattle.fvn_combine_questions.proofs.labels.are_all_told.Goals as goal

pub loop-v-preserved-then-not-has_column : goal.loop-v-preserved-then-not-has_column
loop-v-preserved-then-not-has_column c =
    let told : Solution → Type 0 = λ v. 0 < slice_index v.parts c.args.i → IsToldFrom c.args.reading.now c.args.sums.now c.args.labels.now c.args.state.now v c.args.i in
    more_of told c.args.basis.now c.args.basis.now refl c.loop-v.v-index c.v-item.result c.loop-v-test.true c.loop-v.invariant
    (subst told c.v-item.is (λ some. absurd (false≢true (sym c.if-not-has_column.true ∙ c.has_column.ensures.1 some))))

pub loop-v-preserved : goal.loop-v-preserved
loop-v-preserved c =
    let told : Solution → Type 0 = λ v. 0 < slice_index v.parts c.args.i → IsToldFrom c.args.reading.now c.args.sums.now c.args.labels.now c.args.state.now v c.args.i in
    more_of told c.args.basis.now c.args.basis.now refl c.loop-v.v-index c.v-item.result c.loop-v-test.true c.loop-v.invariant
    (subst told c.v-item.is (λ _. c.is_told.ensures c.if-not-is_told.false))

pub returns : goal.returns
returns c =
    let told : Solution → Type 0 = λ v. 0 < slice_index v.parts c.args.i → IsToldFrom c.args.reading.now c.args.sums.now c.args.labels.now c.args.state.now v c.args.i in
    λ _. all_of told c.args.basis.now c.args.basis.now refl c.loop-v.v-index c.loop-v-test.false c.loop-v.invariant
