-- One number more, or the first piece that is none.
use Rattle.std.proofs.Common.{refl, sym, ◌∙◌, arith}
use Rattle.fvn_weights_reading.proofs.Splitting.{numbers-within, one-counted, last-counted, all-counted}
use Rattle.fvn_weights_reading.proofs.numbers.count_numbers.Goals as goal

pub loop-piece-init : goal.loop-piece-init
loop-piece-init c = (refl, omega arith)

pub loop-piece-preserved : goal.loop-piece-preserved
loop-piece-preserved c =
    one-counted c.args.row.now c.loop-piece.piece-index c.loop-piece.count c.loop-piece.invariant c.piece-item.result c.loop-piece-test.true c.piece-item.is
    (sym c.is_number-number.ensures ∙ c.if-not-number.false)

pub returns-then-not-number-clause-exact : goal.returns-then-not-number-clause-exact
returns-then-not-number-clause-exact c =
    last-counted c.args.row.now c.loop-piece.piece-index c.loop-piece.count c.loop-piece.invariant c.piece-item.result c.loop-piece-test.true c.piece-item.is
    (sym c.is_number-number.ensures ∙ c.if-not-number.true)

pub returns-clause-exact : goal.returns-clause-exact
returns-clause-exact c = all-counted c.args.row.now c.loop-piece.piece-index c.loop-piece.count c.loop-piece.invariant c.loop-piece-test.false

pub returns-then-not-number-clause-within : goal.returns-then-not-number-clause-within
returns-then-not-number-clause-within c = omega (arith, returns-then-not-number-clause-exact c, numbers-within c.args.row.now)

pub returns-clause-within : goal.returns-clause-within
returns-clause-within c = omega (arith, returns-clause-exact c, numbers-within c.args.row.now)
