-- The leaf is open, and what was to come is to come, and no more.
use Rattle.std.proofs.Common.{◌≤◌}
use Rattle.fvn_terms.specs.Substitution.{Substitution}
use Rattle.fvn_acunify_product.specs.Tags.{tags_left}
use Rattle.fvn_combine.specs.Leaves.{IsOpened, IsCoveredToCome}
use Rattle.fvn_combine.specs.Work.{leaf_left}
use Rattle.fvn_combine.proofs.walking.next_of_leaf.Given as goal

abbrev pub invariant-tags : goal.invariant-tags
invariant-tags l = record {
  opened : IsOpened l.task l.state l.opened;
  fewer : (u : Substitution) → IsCoveredToCome l.task l.state l.opened u → IsCoveredToCome l.task l.state l.initial.opened u;
  kept : (u : Substitution) → IsCoveredToCome l.task l.state l.initial.opened u → IsCoveredToCome l.task l.state l.opened u;
  less : leaf_left l.task l.opened ≤ leaf_left l.task l.initial.opened;
}

abbrev pub decreases-tags : goal.decreases-tags
decreases-tags l = tags_left l.opened.tags
