-- What a line denotes is a unifier.
use Rattle.fvn_cmd_unify.proofs.Denoted.{lines-denote_unifiers}
use Rattle.fvn_cmd_unify.proofs.laws.lines_denote_unifiers.Goals as goal

pub returns : goal.returns
returns c = lines-denote_unifiers c.equal_lines_are_instances.ensures c.lines_denote_one_substitution.ensures
