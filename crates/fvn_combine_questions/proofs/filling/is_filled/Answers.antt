-- One more solution.
use Rattle.std.proofs.Common.{◌<◌, slice_index, refl, subst}
use Rattle.fvn_lindio.specs.declared.system.Solution.{Solution}
use Rattle.fvn_combine_questions.specs.inner.Touched.{IsNotedIn, IsDead}
use Rattle.fvn_combine_questions.proofs.Walked.{more_of, all_of}
use Rattle.fvn_combine_questions.proofs.filling.is_filled.Goals as goal

pub loop-v-preserved : goal.loop-v-preserved
loop-v-preserved c =
    let dead : Solution → Type 0 = λ v. 0 < slice_index v.parts c.args.i → IsDead c.args.reading.now c.args.sums.now c.args.state.now (IsNotedIn c.args.sig.now c.args.heads.now) v in
    more_of dead c.args.basis.now c.args.basis.now refl c.loop-v.v-index c.v-item.result c.loop-v-test.true c.loop-v.invariant
    (subst dead c.v-item.is (c.fills.ensures c.if-fills.false))

pub returns : goal.returns
returns c =
    let dead : Solution → Type 0 = λ v. 0 < slice_index v.parts c.args.i → IsDead c.args.reading.now c.args.sums.now c.args.state.now (IsNotedIn c.args.sig.now c.args.heads.now) v in
    λ _. all_of dead c.args.basis.now c.args.basis.now refl c.loop-v.v-index c.loop-v-test.false c.loop-v.invariant
