-- The law, by its lemma.
use Rattle.fvn_combine_choices.proofs.Solved.{planned_bindings_are_solved}
use Rattle.fvn_combine_choices.proofs.laws.planned_bindings_are_solved.Goals as goal

pub returns : goal.returns
returns c = planned_bindings_are_solved c.node_systems_are_sum_systems.ensures c.counts_solve.ensures c.combinations_solve.ensures c.values_unify.ensures
