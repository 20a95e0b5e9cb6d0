-- A solution that is useful to the column fills it.
use Rattle.std.proofs.Common.{refl, ap, sym, ◌∙◌, arith}
use Rattle.std.proofs.lemmas.Bool.{iff_false, true≢false}
use Rattle.std.proofs.lemmas.List.{take_all}
use Rattle.fvn_acunify.specs.inner.Prefix.{useful_sum}
use Rattle.fvn_acunify.proofs.ColumnSums.{useful_sum-none, useful_sum-some}
use Rattle.fvn_acunify.proofs.prefix.is_fillable.Goals as goal

pub returns-then-not-is_changed : goal.returns-then-not-is_changed
returns-then-not-is_changed c =
    (λ _ asked. absurd (iff_false c.is_changed.ensures c.if-not-is_changed.true asked), λ _. refl)

pub returns-then-sums-j-gt0 : goal.returns-then-sums-j-gt0
returns-then-sums-j-gt0 c = (λ _ _. omega (arith, c.if-sums-j-gt0.true), λ _. refl)

pub returns-then-is_useful : goal.returns-then-is_useful
returns-then-is_useful c =
    let all = useful_sum-some c.args.constants.now c.args.j c.args.lower.now c.loop-solution.solution-index c.solution-item.result c.as_slice.result.now c.loop-solution-test.true
    (c.as_slice.ensures ∙ ap (λ v. v.parts) c.solution-item.is) (c.is_useful.ensures.0 c.if-is_useful.true) in
    (λ _ _. omega (arith, all), λ _. refl)

pub loop-solution-preserved : goal.loop-solution-preserved
loop-solution-preserved c =
    useful_sum-none c.args.constants.now c.args.j c.args.lower.now c.loop-solution.solution-index c.solution-item.result c.as_slice.result.now c.loop-solution-test.true
    (c.as_slice.ensures ∙ ap (λ v. v.parts) c.solution-item.is) (iff_false c.is_useful.ensures c.if-is_useful.false) c.loop-solution.invariant

pub returns : goal.returns
returns c =
    let all = take_all c.loop-solution.solution-index c.args.lower.now c.loop-solution-test.false in
    let none = ap (useful_sum c.args.constants.now c.args.j) (sym all) ∙ c.loop-solution.invariant in
    let asked = c.is_changed.ensures.0 c.if-not-is_changed.false in
    (λ e. absurd (true≢false (sym e)), λ h. absurd (let some = h asked in omega (arith, none, some, c.if-sums-j-gt0.false)))
