-- One more solution.
use Rattle.fvn_lindio.specs.Systems.{vectors_of}
use Rattle.fvn_acunify.specs.ValidChoice.{chosen}
use Rattle.fvn_combine_admissible.proofs.Chosen.{taking_more, taking_all}
use Rattle.fvn_combine_admissible.proofs.taking.taken.Goals as goal

pub loop-solution-preserved : goal.loop-solution-preserved
loop-solution-preserved c =
    taking_more (vectors_of c.loop-solution.solutions.items) (vectors_of c.add_if.new.solutions.items) (chosen c.args.number (vectors_of c.args.basis.now)) c.loop-solution.bits c.args.basis.now c.loop-solution.solution-index c.solution-item.result c.loop-solution-test.true c.solution-item.is c.in_ok-add_if.ensures c.loop-solution.invariant

pub returns : goal.returns
returns c = taking_all (vectors_of c.loop-solution.solutions.items) (chosen c.args.number (vectors_of c.args.basis.now)) c.loop-solution.bits c.args.basis.now c.loop-solution.solution-index c.loop-solution-test.false c.loop-solution.invariant
