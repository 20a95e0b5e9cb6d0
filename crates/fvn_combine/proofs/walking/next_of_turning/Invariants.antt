-- The tags are the same, and what was to come is to come, and no more.
use Rattle.std.proofs.Common.{◌≤◌, List, Option}
use Rattle.fvn_terms.specs.declared.plain.OpId.{OpId}
use Rattle.fvn_terms.specs.Substitution.{Substitution}
use Rattle.fvn_acunify_product.specs.Wheels.{choices_left}
use Rattle.fvn_combine.specs.Leaves.{IsTurning, IsCoveredUnder}
use Rattle.fvn_combine.proofs.walking.next_of_turning.Given as goal

abbrev pub invariant-choices : goal.invariant-choices
invariant-choices l = record {
  turning : IsTurning l.task l.state l.reading l.bases l.shared l.turning;
  fewer : (labels : List (Option OpId)) (u : Substitution) → IsCoveredUnder l.task l.state l.reading l.bases labels l.turning u → IsCoveredUnder l.task l.state l.reading l.bases labels l.initial.turning u;
  kept : (labels : List (Option OpId)) (u : Substitution) → IsCoveredUnder l.task l.state l.reading l.bases labels l.initial.turning u → IsCoveredUnder l.task l.state l.reading l.bases labels l.turning u;
  less : choices_left l.turning.wheels ≤ choices_left l.initial.turning.wheels;
}

abbrev pub decreases-choices : goal.decreases-choices
decreases-choices l = choices_left l.turning.wheels
