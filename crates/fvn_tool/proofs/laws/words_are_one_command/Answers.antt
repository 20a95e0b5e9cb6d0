-- The law, by its lemma.
use Rattle.fvn_tool.proofs.Grammar.{one_command}
use Rattle.fvn_tool.proofs.laws.words_are_one_command.Goals as goal

pub returns : goal.returns
returns c = one_command
