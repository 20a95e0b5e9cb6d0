-- The law, by its lemma.
use Rattle.fvn_cmd_laws.proofs.Explored.{explored_exact}
use Rattle.fvn_cmd_laws.proofs.laws.explored_answers_are_exact.Goals as goal

pub returns : goal.returns
returns c = explored_exact
