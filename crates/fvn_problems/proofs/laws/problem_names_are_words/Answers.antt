-- Names in problems are words.
use Rattle.fvn_problems.proofs.WordNames.{problem-names}
use Rattle.fvn_problems.proofs.laws.problem_names_are_words.Goals as goal

pub returns : goal.returns
returns c = problem-names c.pieces_by_form.ensures c.pieces_stand_alone.ensures
