-- One more solution.
use Rattle.std.proofs.Common.{◌+◌, take, All, refl, subst}
use Rattle.std.proofs.lemmas.List.Elements.{All-nil}
use Rattle.std.specs.Prelude.{IsFalse}
use Rattle.fvn_combine_questions.specs.inner.Touched.{IsNotedIn, IsPastSolution}
use Rattle.fvn_combine_questions.proofs.Walked.{more_of, all_of}
use Rattle.fvn_combine_questions.proofs.Ranking.{best_before, best_asked, best_weaker, best_after}
use Rattle.fvn_combine_questions.proofs.best.best_of_solutions.Goals as goal

pub loop-v-init : goal.loop-v-init
loop-v-init c =
    let a = c.args.asking.now in
    let past = IsPastSolution a.reading.now c.args.sums.now a.state.now (IsNotedIn a.sig.now a.heads.now) in
    best_before a.state.now (IsFalse c.args.single → All past (take 0 c.args.basis.now)) c.args.before c.requires.asked (λ full. All-nil past)

pub best_of_solution-best-requires-clause-asked : goal.best_of_solution-best-requires-clause-asked
best_of_solution-best-requires-clause-asked c =
    let a = c.args.asking.now in
    let past = IsPastSolution a.reading.now c.args.sums.now a.state.now (IsNotedIn a.sig.now a.heads.now) in
    best_asked a.state.now (IsFalse c.args.single → All past (take c.loop-v.v-index c.args.basis.now)) c.args.before c.loop-v.best c.loop-v.invariant

pub loop-v-preserved : goal.loop-v-preserved
loop-v-preserved c =
    let a = c.args.asking.now in
    let past = IsPastSolution a.reading.now c.args.sums.now a.state.now (IsNotedIn a.sig.now a.heads.now) in
    best_after a.state.now (IsFalse c.args.single → All past (take c.loop-v.v-index c.args.basis.now)) (IsFalse c.args.single → past c.v-item.result) (IsFalse c.args.single → All past (take (c.loop-v.v-index + 1) c.args.basis.now)) c.args.before c.loop-v.best c.best_of_solution-best.result
    (λ before own full. more_of past c.args.basis.now c.args.basis.now refl c.loop-v.v-index c.v-item.result c.loop-v-test.true (before full) (subst past c.v-item.is (own full)))
    c.loop-v.invariant c.best_of_solution-best.ensures

pub returns : goal.returns
returns c =
    let a = c.args.asking.now in
    let past = IsPastSolution a.reading.now c.args.sums.now a.state.now (IsNotedIn a.sig.now a.heads.now) in
    best_weaker a.state.now (IsFalse c.args.single → All past (take c.loop-v.v-index c.args.basis.now)) (IsFalse c.args.single → All past c.args.basis.now) c.args.before c.loop-v.best
    (λ none past_all full. all_of past c.args.basis.now c.args.basis.now refl c.loop-v.v-index c.loop-v-test.false (past_all full))
    c.loop-v.invariant
