-- What is promised of unifiers in a theory holds of the lines that are shown.
use Rattle.fvn_cmd_vunify.proofs.Shown.{shown_unifiers_keep}
use Rattle.fvn_cmd_vunify.proofs.laws.shown_theory_unifiers_keep_the_promise.Goals as goal

pub returns : goal.returns
returns c =
    shown_unifiers_keep
    (record {
      modules = c.loaded_modules_are_good.ensures;
      problems = c.problems_are_kinded.ensures;
      theory = c.theory_equality_is_lawful.ensures;
      chain = c.instances_are_transitive.ensures;
      rewriting = c.rewriting_is_lawful.ensures;
      sequences = c.sequences_are_lawful.ensures;
      instances = c.equal_lines_are_instances.ensures;
      denoted = c.lines_denote_one_substitution.ensures;
      unifiers = record {
        irreducible = c.theory_unifiers_have_irreducible_values.ensures;
        shortest = c.complete_irreducible_unifiers_are_shortest.ensures;
        flat = c.flattened_pairs_have_one_theory_answer.ensures;
      };
    })
