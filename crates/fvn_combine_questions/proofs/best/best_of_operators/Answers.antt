-- One more operator.
use Rattle.std.proofs.Common.{◌≡◌, ℕ, ◌+◌, ◌<◌, ◌≤◌, List, [], length, get_or, slice_get, sym, subst, refl, arith, Some, None}
use Rattle.std.proofs.lemmas.Option.{slice_get_read, slice_get_within}
use Rattle.std.specs.Prelude.{IsFalse}
use Rattle.fvn_combine_leaves.specs.declared.reading.Sums.{Sums}
use Rattle.fvn_combine_questions.specs.inner.Touched.{IsNotedIn, AreWide, ArePastTouched, AreAllPast}
use Rattle.fvn_combine_questions.proofs.Passing.{at_operator, basis_at}
use Rattle.fvn_combine_questions.proofs.Ranking.{best_before, best_asked, best_weaker, best_above}
use Rattle.fvn_combine_questions.proofs.best.best_of_operators.Goals as goal

pub loop-step-init : goal.loop-step-init
loop-step-init c =
    let a = c.args.asking.now in
    let r = a.reading.now in
    let P = λ (i : ℕ). IsFalse c.args.single → (e : Sums) → slice_get r.sums i ≡ Some e → ArePastTouched r e a.state.now (IsNotedIn a.sig.now a.heads.now) (get_or c.args.bases.now i []) in
    best_before a.state.now ((i : ℕ) → i < length r.sums → length r.sums ≤ i + 0 → P i) None tt (λ i within over. absurd (omega (arith, within, over)))

pub best_of_solutions-best-requires-clause-wide : goal.best_of_solutions-best-requires-clause-wide
best_of_solutions-best-requires-clause-wide c =
    let sums = c.args.asking.now.reading.now.sums in
    let place : c.backwards-i.result + c.loop-step.step + 1 ≡ length sums = subst (λ (xs : List Sums). c.backwards-i.result + c.loop-step.step + 1 ≡ length xs) c.as_slice-sums.ensures c.backwards-i.ensures in
    let within : c.backwards-i.result < length sums = omega (arith, place) in
    let at = subst (λ (xs : List Sums). c.index-sums-i.result ≡ get_or xs c.backwards-i.result c.index-sums-i.result) c.as_slice-sums.ensures c.index-sums-i.is in
    let many = c.requires.as_many in
    subst (AreWide (length c.index-sums-i.result.columns)) (basis_at c.args.bases.now c.backwards-i.result c.index-bases-i.result c.as_slice.result.now (omega (arith, within, many)) c.index-bases-i.is c.as_slice.ensures)
    (c.requires.wide c.backwards-i.result c.index-sums-i.result (slice_get_read sums (length sums) c.backwards-i.result c.index-sums-i.result refl within at))

pub best_of_solutions-best-requires-clause-asked : goal.best_of_solutions-best-requires-clause-asked
best_of_solutions-best-requires-clause-asked c =
    let a = c.args.asking.now in
    let r = a.reading.now in
    let P = λ (i : ℕ). IsFalse c.args.single → (e : Sums) → slice_get r.sums i ≡ Some e → ArePastTouched r e a.state.now (IsNotedIn a.sig.now a.heads.now) (get_or c.args.bases.now i []) in
    best_asked a.state.now ((i : ℕ) → i < length r.sums → length r.sums ≤ i + c.loop-step.step → P i) None c.loop-step.best c.loop-step.invariant

pub loop-step-preserved : goal.loop-step-preserved
loop-step-preserved c =
    let a = c.args.asking.now in
    let s = a.state.now in
    let r = a.reading.now in
    let noted = IsNotedIn a.sig.now a.heads.now in
    let P = λ (i : ℕ). IsFalse c.args.single → (e : Sums) → slice_get r.sums i ≡ Some e → ArePastTouched r e s noted (get_or c.args.bases.now i []) in
    let place : c.backwards-i.result + c.loop-step.step + 1 ≡ length r.sums = subst (λ (xs : List Sums). c.backwards-i.result + c.loop-step.step + 1 ≡ length xs) c.as_slice-sums.ensures c.backwards-i.ensures in
    let within : c.backwards-i.result < length r.sums = omega (arith, place) in
    let at = subst (λ (xs : List Sums). c.index-sums-i.result ≡ get_or xs c.backwards-i.result c.index-sums-i.result) c.as_slice-sums.ensures c.index-sums-i.is in
    let many = c.requires.as_many in
    best_above s P None c.loop-step.best c.best_of_solutions-best.result (length r.sums) c.loop-step.step c.backwards-i.result place c.loop-step.invariant
    (best_weaker s (IsFalse c.args.single → ArePastTouched r c.index-sums-i.result s noted c.as_slice.result.now) (P c.backwards-i.result) c.loop-step.best c.best_of_solutions-best.result
    (λ none past full. at_operator (λ e. ArePastTouched r e s noted (get_or c.args.bases.now c.backwards-i.result [])) r.sums c.backwards-i.result c.index-sums-i.result within at
    (subst (ArePastTouched r c.index-sums-i.result s noted) (sym (basis_at c.args.bases.now c.backwards-i.result c.index-bases-i.result c.as_slice.result.now (omega (arith, within, many)) c.index-bases-i.is c.as_slice.ensures)) (past full)))
    c.best_of_solutions-best.ensures)

pub returns : goal.returns
returns c =
    let a = c.args.asking.now in
    let s = a.state.now in
    let r = a.reading.now in
    let noted = IsNotedIn a.sig.now a.heads.now in
    let P = λ (i : ℕ). IsFalse c.args.single → (e : Sums) → slice_get r.sums i ≡ Some e → ArePastTouched r e s noted (get_or c.args.bases.now i []) in
    let over : length r.sums ≤ c.loop-step.step = subst (λ (xs : List Sums). length xs ≤ c.loop-step.step) c.as_slice-sums.ensures c.loop-step-test.false in
    best_weaker s ((i : ℕ) → i < length r.sums → length r.sums ≤ i + c.loop-step.step → P i) (IsFalse c.args.single → AreAllPast r s noted c.args.bases.now) None c.loop-step.best
    (λ none past full i e is. past i (slice_get_within r.sums i e is) (omega (arith, over)) full e is)
    c.loop-step.invariant
