-- One more column.
use Rattle.std.proofs.Common.{◌≢◌, arith}
use Rattle.fvn_combine_questions.specs.inner.Labels.{IsFreeAt}
use Rattle.fvn_combine_questions.proofs.Passing.{more_below}
use Rattle.fvn_combine_questions.proofs.labels.is_free_but.Goals as goal

pub loop-j-preserved-then-j-i : goal.loop-j-preserved-then-j-i
loop-j-preserved-then-j-i c =
    more_below (λ j. j ≢ c.args.i → IsFreeAt c.args.reading.now c.args.sums.now c.args.labels.now c.args.v.now j) c.loop-j.j c.loop-j.invariant
    (λ other. absurd (other c.if-j-i.true))

pub loop-j-preserved : goal.loop-j-preserved
loop-j-preserved c =
    more_below (λ j. j ≢ c.args.i → IsFreeAt c.args.reading.now c.args.sums.now c.args.labels.now c.args.v.now j) c.loop-j.j c.loop-j.invariant
    (λ _. c.is_free_at.ensures c.if-not-is_free_at.false)

pub returns : goal.returns
returns c = let over = c.loop-j-test.false in λ _ j within other. c.loop-j.invariant j (omega (arith, within, over)) other
