-- The law, by its lemma.
use Rattle.fvn_cmd_words.proofs.Naming.{one_command}
use Rattle.fvn_cmd_words.proofs.laws.words_are_one_command.Goals as goal

pub returns : goal.returns
returns c = one_command
