-- None of the solutions so far.
use Rattle.std.proofs.Common.{All, take}
use Rattle.fvn_lindio.specs.Systems.{vectors_of}
use Rattle.fvn_combine_admissible.proofs.Alone.{HasBoth}
use Rattle.fvn_combine_admissible.proofs.aliases.has_both.Given as goal

abbrev pub invariant-loop-solution : goal.invariant-loop-solution
invariant-loop-solution l = All (λ v. HasBoth l.constants l.j v → ⊥) (take l.solution-index (vectors_of l.solutions))
