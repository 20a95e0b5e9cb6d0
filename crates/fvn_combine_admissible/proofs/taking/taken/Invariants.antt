-- What is still to be taken, with what is taken.
use Rattle.std.proofs.Common.{◌≡◌, ◌++◌, drop}
use Rattle.fvn_lindio.specs.Systems.{vectors_of}
use Rattle.fvn_acunify.specs.ValidChoice.{chosen}
use Rattle.fvn_combine_admissible.proofs.taking.taken.Given as goal

abbrev pub invariant-loop-solution : goal.invariant-loop-solution
invariant-loop-solution l =
    vectors_of l.solutions.items ++ chosen l.bits (vectors_of (drop l.solution-index l.basis)) ≡ chosen l.number (vectors_of l.basis)
