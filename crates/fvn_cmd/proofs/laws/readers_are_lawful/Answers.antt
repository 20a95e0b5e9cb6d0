-- The laws of the readers, side by side.
use Rattle.fvn_cmd.proofs.laws.readers_are_lawful.Goals as goal

pub returns : goal.returns
returns c = record {
  loaded = c.loaded_modules_are_determined.ensures;
  faults = c.load_faults_are_determined.ensures;
  not_loaded = c.faulty_texts_are_not_loaded.ensures;
  losses = c.losses_are_determined.ensures;
  problems = c.problems_are_determined.ensures;
  no_problem = c.refused_problems_ask_nothing.ensures;
  problem_faults = c.problem_faults_are_determined.ensures;
  bindings = c.bindings_are_determined.ensures;
  no_bindings = c.refused_bindings_bind_nothing.ensures;
  binding_faults = c.binding_faults_are_determined.ensures;
  weights = c.weights_are_determined.ensures;
  no_weights = c.refused_texts_weigh_nothing.ensures;
  weight_faults = c.weight_faults_are_determined.ensures;
  terms = c.queries_are_determined.ensures;
  no_term = c.refused_queries_ask_nothing.ensures;
  term_faults = c.query_faults_are_determined.ensures;
}
