-- One more column.
use Rattle.std.proofs.Common.{sym, ◌∙◌, arith}
use Rattle.std.proofs.lemmas.Bool.{false≢true}
use Rattle.fvn_combine_questions.specs.inner.Touched.{AreToldIn}
use Rattle.fvn_combine_questions.specs.inner.Labels.{CompetesIn}
use Rattle.fvn_combine_questions.proofs.Passing.{more_below}
use Rattle.fvn_combine_questions.proofs.labels.is_told.Goals as goal

pub loop-j-preserved-then-not-competes : goal.loop-j-preserved-then-not-competes
loop-j-preserved-then-not-competes c =
    let r = c.args.reading.now in
    let e = c.args.sums.now in
    more_below (λ j. CompetesIn r e c.args.labels.now c.args.v.now j → AreToldIn r e c.args.state.now c.args.i j) c.loop-j.j c.loop-j.invariant
    (λ own. absurd (false≢true (sym c.if-not-competes.true ∙ c.competes.ensures own)))

pub loop-j-preserved : goal.loop-j-preserved
loop-j-preserved c =
    let r = c.args.reading.now in
    let e = c.args.sums.now in
    more_below (λ j. CompetesIn r e c.args.labels.now c.args.v.now j → AreToldIn r e c.args.state.now c.args.i j) c.loop-j.j c.loop-j.invariant
    (λ own. c.are_told.ensures.told c.if-are_told.true)

pub returns : goal.returns
returns c = let over = c.loop-j-test.false in λ _ j within own. c.loop-j.invariant j (omega (arith, within, over)) own
