-- One more column.
use Rattle.std.proofs.Common.{◌≡◌, ℕ, ◌<◌, List, length, get_or, sym, ap, ◌∙◌, subst, arith}
use Rattle.std.proofs.lemmas.Bool.{false≢true}
use Rattle.fvn_combine_questions.specs.inner.Touched.{IsNotedIn, StandsIn, AreToldIn, ArePastColumns}
use Rattle.fvn_combine_questions.proofs.Ranking.{open_ranked, best_before, best_weaker, best_below}
use Rattle.fvn_combine_questions.proofs.best.best_of_column.Goals as goal

pub loop-j-init : goal.loop-j-init
loop-j-init c =
    let a = c.args.asking.now in
    let r = a.reading.now in
    let e = c.args.sums.now in
    let P = λ (j : ℕ). StandsIn r e (IsNotedIn a.sig.now a.heads.now) c.args.v.now j → AreToldIn r e a.state.now c.args.i j in
    best_before a.state.now ((j : ℕ) → j < 0 → P j) c.args.before c.requires.asked (λ j below. absurd (omega (arith, below)))

pub loop-j-preserved-then-not-is_better : goal.loop-j-preserved-then-not-is_better
loop-j-preserved-then-not-is_better c =
    let a = c.args.asking.now in
    let r = a.reading.now in
    let e = c.args.sums.now in
    best_below a.state.now (λ (j : ℕ). StandsIn r e (IsNotedIn a.sig.now a.heads.now) c.args.v.now j → AreToldIn r e a.state.now c.args.i j) c.args.before c.loop-j.best c.loop-j.j
    (λ none. absurd (false≢true (sym c.if-not-is_better.true ∙ c.is_better.ensures none)))
    c.loop-j.invariant

pub loop-j-preserved-then-not-stands : goal.loop-j-preserved-then-not-stands
loop-j-preserved-then-not-stands c =
    let a = c.args.asking.now in
    let r = a.reading.now in
    let e = c.args.sums.now in
    best_below a.state.now (λ (j : ℕ). StandsIn r e (IsNotedIn a.sig.now a.heads.now) c.args.v.now j → AreToldIn r e a.state.now c.args.i j) c.args.before c.loop-j.best c.loop-j.j
    (λ none own. absurd (false≢true (sym c.if-not-stands.true ∙ c.stands.ensures own)))
    c.loop-j.invariant

pub loop-j-preserved-then-are_told : goal.loop-j-preserved-then-are_told
loop-j-preserved-then-are_told c =
    let a = c.args.asking.now in
    let r = a.reading.now in
    let e = c.args.sums.now in
    best_below a.state.now (λ (j : ℕ). StandsIn r e (IsNotedIn a.sig.now a.heads.now) c.args.v.now j → AreToldIn r e a.state.now c.args.i j) c.args.before c.loop-j.best c.loop-j.j
    (λ none own. c.are_told.ensures.told c.if-are_told.true)
    c.loop-j.invariant

pub loop-j-preserved : goal.loop-j-preserved
loop-j-preserved c =
    let e = c.args.sums.now in
    let is = c.as_slice-columns.ensures in
    let pair = c.ranked_pair-pair.result in
    open_ranked c.args.asking.now.state.now e.columns c.requires.sums.within c.args.i c.loop-j.j c.requires.within
    (subst (λ (xs : List ℕ). c.loop-j.j < length xs) is c.loop-j-test.true)
    pair
    (subst (λ (xs : List ℕ). pair.left ≡ get_or xs c.args.i 0) is c.ranked_pair-pair.ensures.left)
    (subst (λ (xs : List ℕ). pair.right ≡ get_or xs c.loop-j.j 0) is c.ranked_pair-pair.ensures.right)
    (c.are_told.ensures.open c.if-are_told.false)

pub returns : goal.returns
returns c =
    let a = c.args.asking.now in
    let r = a.reading.now in
    let e = c.args.sums.now in
    let P = λ (j : ℕ). StandsIn r e (IsNotedIn a.sig.now a.heads.now) c.args.v.now j → AreToldIn r e a.state.now c.args.i j in
    let over = c.loop-j-test.false in
    let same = ap length c.as_slice-columns.ensures in
    best_weaker a.state.now ((j : ℕ) → j < c.loop-j.j → P j) (ArePastColumns r e a.state.now (IsNotedIn a.sig.now a.heads.now) c.args.v.now c.args.i) c.args.before c.loop-j.best
    (λ none told j within own. told j (omega (arith, within, over, same)) own)
    c.loop-j.invariant
