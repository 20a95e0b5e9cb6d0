-- One equation more.
use Rattle.std.proofs.Common.{arith}
use Rattle.fvn_cohere.proofs.Firsts.{decreasing_more_at, first_loss_at, all_decreasing}
use Rattle.fvn_cohere.proofs.losing.sort_loss.Goals as goal

pub returns-then-found : goal.returns-then-found
returns-then-found c = first_loss_at c.args.sig.now c.args.equations.now c.loop-i.i c.loop-i-test.true c.loop-i.invariant c.in_ok-found.found c.if-found.true c.in_ok-found.ensures

pub loses_at-requires-clause-number : goal.loses_at-requires-clause-number
loses_at-requires-clause-number c = record { from_one = omega arith; listed = omega (arith, c.loop-i-test.true) }

pub loop-i-preserved : goal.loop-i-preserved
loop-i-preserved c = decreasing_more_at c.args.sig.now c.args.equations.now c.loop-i.i c.loop-i-test.true c.loop-i.invariant c.in_ok-found.found c.if-found.false c.in_ok-found.ensures

pub returns : goal.returns
returns c = all_decreasing c.args.sig.now c.args.equations.now c.loop-i.i c.loop-i-test.false c.loop-i.invariant
