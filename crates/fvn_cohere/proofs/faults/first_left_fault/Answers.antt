-- One equation more.
use Rattle.fvn_cohere.proofs.Harmless.{harmless_step, fault_step, all_harmless}
use Rattle.fvn_cohere.proofs.faults.first_left_fault.Goals as goal

pub loop-i-preserved : goal.loop-i-preserved
loop-i-preserved c = harmless_step c.args.sig.now c.args.equations.now c.loop-i.i c.in_ok-fault.fault c.loop-i-test.true c.loop-i.invariant c.in_default.is c.in_ok-fault.ensures

pub returns-in-Some : goal.returns-in-Some
returns-in-Some c = fault_step c.args.sig.now c.args.equations.now c.loop-i.i c.in_ok-fault.fault c.in-Some.wrong c.loop-i-test.true c.loop-i.invariant c.in-Some.is c.in_ok-fault.ensures

pub returns : goal.returns
returns c = all_harmless c.args.sig.now c.args.equations.now c.loop-i.i c.loop-i-test.false c.loop-i.invariant
