-- The measures of the search, and the choices that were tried.
use Rattle.std.proofs.Common.{◌+◌, ◌-◌, ◌*◌}
use Rattle.fvn_match.specs.inner.Summands.{references}
use Rattle.fvn_match.specs.inner.Choices.{IsWithin, place_value}
use Rattle.fvn_match.specs.inner.Goals.{bindings_of, weight, weight_of, goals_weight, sums_weight, patterns_of}
use Rattle.fvn_match.proofs.SumFinding.{IsTried}
use Rattle.fvn_match.proofs.search.Search.+search.Given as goal

-- four times the weight, and the place in a round of calls that take nothing apart
abbrev pub decreases-solve : goal.decreases-solve
decreases-solve l = 4 * (goals_weight l.goals.now + sums_weight l.sums.now)

abbrev pub decreases-lists : goal.decreases-lists
decreases-lists l = 4 * (weight_of l.ps.now + goals_weight l.rest.now + sums_weight l.sums.now) + 3

abbrev pub decreases-again : goal.decreases-again
decreases-again l = 4 * (weight_of (references l.ps.now) + goals_weight l.rest.now + sums_weight l.sums.now) + 2

abbrev pub decreases-one_by_one : goal.decreases-one_by_one
decreases-one_by_one l = 4 * (weight_of (references l.ps.now) + goals_weight l.rest.now + sums_weight l.sums.now) + 1

abbrev pub decreases-pair : goal.decreases-pair
decreases-pair l = 4 * (weight l.p.now + goals_weight l.rest.now + sums_weight l.sums.now) + 2

abbrev pub decreases-variable : goal.decreases-variable
decreases-variable l = 4 * (1 + goals_weight l.rest.now + sums_weight l.sums.now)

abbrev pub decreases-either : goal.decreases-either
decreases-either l = 4 * (weight_of l.ps.now + goals_weight l.rest.now + sums_weight l.sums.now) + 4

abbrev pub decreases-way : goal.decreases-way
decreases-way l = 4 * (weight_of l.ps.now + goals_weight l.rest.now + sums_weight l.sums.now) + 3

abbrev pub decreases-summed : goal.decreases-summed
decreases-summed l = 4 * (weight l.p.now + goals_weight l.rest.now + sums_weight l.sums.now) + 1

abbrev pub decreases-sum : goal.decreases-sum
decreases-sum l = 4 * (weight_of (patterns_of l.goal.now) + sums_weight l.sums.now) + 3

abbrev pub decreases-pick : goal.decreases-pick
decreases-pick l = 4 * (weight_of (patterns_of l.goal.now) + sums_weight l.sums.now) + 2

abbrev pub decreases-choose_any : goal.decreases-choose_any
decreases-choose_any l = 4 * (weight_of (patterns_of l.goal.now) + sums_weight l.sums.now) + 1

abbrev pub decreases-choose : goal.decreases-choose
decreases-choose l = 4 * (weight_of (patterns_of l.goal.now) + sums_weight l.sums.now)

abbrev pub invariant-choose_any-loop-chosen : goal.invariant-choose_any-loop-chosen
invariant-choose_any-loop-chosen l = record {
  within : IsWithin l.room l.limits l.chosen.items;
  tried : IsTried l.self.sig.now (bindings_of l.bound) l.goal l.p l.k l.limits l.room l.sums l.chosen.items;
}

abbrev pub decreases-choose_any-loop-chosen : goal.decreases-choose_any-loop-chosen
decreases-choose_any-loop-chosen l = place_value l.limits l.limits - place_value l.limits l.chosen.items
