-- Names in term texts are words.
use Rattle.fvn_problems.proofs.WordNames.{query-names}
use Rattle.fvn_problems.proofs.laws.query_names_are_words.Goals as goal

pub returns : goal.returns
returns c = query-names c.pieces_by_form.ensures c.pieces_stand_alone.ensures
