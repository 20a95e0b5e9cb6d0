-- One number more.
use Rattle.std.proofs.Common.{◌≤◌, get_or, refl, sym, ◌∙◌, below_more}
use Rattle.fvn_weights.proofs.FitTests.{contradicts, positive_at, nothing_at, all_positive}
use Rattle.fvn_weights.proofs.fitting.are_all_positive.Goals as goal

pub loop-i-preserved : goal.loop-i-preserved
loop-i-preserved c =
    below_more (λ k. 1 ≤ get_or c.args.numbers.now k 1) c.loop-i.i c.loop-i.invariant
    (positive_at c.args.numbers.now c.loop-i.i _ c.loop-i-test.true (sym c.is_nothing-empty.ensures ∙ c.if-empty.false))

pub returns-then-empty : goal.returns-then-empty
returns-then-empty c = (
  λ t. absurd (contradicts _ t refl),
  λ h. absurd (nothing_at c.args.numbers.now c.loop-i.i _ c.loop-i-test.true (sym c.is_nothing-empty.ensures ∙ c.if-empty.true) h),
)

pub returns : goal.returns
returns c = (λ t. all_positive c.args.numbers.now c.loop-i.i c.loop-i-test.false c.loop-i.invariant, λ h. refl)
