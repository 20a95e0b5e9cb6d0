-- One more column.
use Rattle.std.proofs.Common.{ℕ, ◌+◌, ◌<◌, ◌≤◌, length, sym, ◌∙◌, inl, inr, arith}
use Rattle.std.proofs.lemmas.Bool.{false≢true}
use Rattle.std.specs.Prelude.{IsFalse}
use Rattle.fvn_combine_questions.specs.inner.Touched.{IsNotedIn, StandsIn, ArePastColumns, IsPastSolution}
use Rattle.fvn_combine_questions.proofs.Ranking.{best_before, best_asked, best_weaker, best_above_where}
use Rattle.fvn_combine_questions.proofs.best.best_of_solution.Goals as goal

pub loop-step-init : goal.loop-step-init
loop-step-init c =
    let a = c.args.asking.now in
    let r = a.reading.now in
    let e = c.args.sums.now in
    let P = λ (i : ℕ). StandsIn r e (IsNotedIn a.sig.now a.heads.now) c.args.v.now i → ArePastColumns r e a.state.now (IsNotedIn a.sig.now a.heads.now) c.args.v.now i in
    best_before a.state.now (IsFalse c.args.single → (i : ℕ) → i < length e.columns → length e.columns ≤ i + 0 → P i) c.args.before c.requires.asked (λ full i within over. absurd (omega (arith, within, over)))

pub best_of_column-best-requires-clause-asked : goal.best_of_column-best-requires-clause-asked
best_of_column-best-requires-clause-asked c =
    let a = c.args.asking.now in
    let r = a.reading.now in
    let e = c.args.sums.now in
    let P = λ (i : ℕ). StandsIn r e (IsNotedIn a.sig.now a.heads.now) c.args.v.now i → ArePastColumns r e a.state.now (IsNotedIn a.sig.now a.heads.now) c.args.v.now i in
    best_asked a.state.now (IsFalse c.args.single → (i : ℕ) → i < length e.columns → length e.columns ≤ i + c.loop-step.step → P i) c.args.before c.loop-step.best c.loop-step.invariant

pub loop-step-preserved-then-not-is_asked_of : goal.loop-step-preserved-then-not-is_asked_of
loop-step-preserved-then-not-is_asked_of c =
    let a = c.args.asking.now in
    let r = a.reading.now in
    let e = c.args.sums.now in
    let P = λ (i : ℕ). StandsIn r e (IsNotedIn a.sig.now a.heads.now) c.args.v.now i → ArePastColumns r e a.state.now (IsNotedIn a.sig.now a.heads.now) c.args.v.now i in
    best_above_where a.state.now (IsFalse c.args.single) P c.args.before c.loop-step.best c.loop-step.best (length e.columns) c.loop-step.step c.column_at-i.result (λ full. c.column_at-i.ensures.backwards full ∙ c.len-count.ensures) c.loop-step.invariant
    (best_before a.state.now (IsFalse c.args.single → P c.column_at-i.result) c.loop-step.best
    (best_asked a.state.now (IsFalse c.args.single → (i : ℕ) → i < length e.columns → length e.columns ≤ i + c.loop-step.step → P i) c.args.before c.loop-step.best c.loop-step.invariant)
    (λ full own. absurd (false≢true (sym c.if-not-is_asked_of.true ∙ c.is_asked_of.ensures full own))))

pub loop-step-preserved : goal.loop-step-preserved
loop-step-preserved c =
    let a = c.args.asking.now in
    let r = a.reading.now in
    let e = c.args.sums.now in
    let P = λ (i : ℕ). StandsIn r e (IsNotedIn a.sig.now a.heads.now) c.args.v.now i → ArePastColumns r e a.state.now (IsNotedIn a.sig.now a.heads.now) c.args.v.now i in
    best_above_where a.state.now (IsFalse c.args.single) P c.args.before c.loop-step.best c.best_of_column-best.result (length e.columns) c.loop-step.step c.column_at-i.result (λ full. c.column_at-i.ensures.backwards full ∙ c.len-count.ensures) c.loop-step.invariant
    (best_weaker a.state.now (ArePastColumns r e a.state.now (IsNotedIn a.sig.now a.heads.now) c.args.v.now c.column_at-i.result) (IsFalse c.args.single → P c.column_at-i.result) c.loop-step.best c.best_of_column-best.result (λ none past full own. past) c.best_of_column-best.ensures)

pub returns-then-is_dead : goal.returns-then-is_dead
returns-then-is_dead c =
    let a = c.args.asking.now in
    best_before a.state.now (IsFalse c.args.single → IsPastSolution a.reading.now c.args.sums.now a.state.now (IsNotedIn a.sig.now a.heads.now) c.args.v.now) c.args.before c.requires.asked (λ full. inl (c.is_dead.ensures c.if-is_dead.true))

pub returns : goal.returns
returns c =
    let a = c.args.asking.now in
    let r = a.reading.now in
    let e = c.args.sums.now in
    let P = λ (i : ℕ). StandsIn r e (IsNotedIn a.sig.now a.heads.now) c.args.v.now i → ArePastColumns r e a.state.now (IsNotedIn a.sig.now a.heads.now) c.args.v.now i in
    let over = c.loop-step-test.false in
    best_weaker a.state.now (IsFalse c.args.single → (i : ℕ) → i < length e.columns → length e.columns ≤ i + c.loop-step.step → P i) (IsFalse c.args.single → IsPastSolution r e a.state.now (IsNotedIn a.sig.now a.heads.now) c.args.v.now) c.args.before c.loop-step.best
    (λ none past full. inr (λ i within. past full i within (omega (arith, within, over))))
    c.loop-step.invariant
