-- The lemma is the law.
use Rattle.fvn_lex.proofs.JoinLemmas.{pieces-all}
use Rattle.fvn_lex.proofs.laws.pieces_stand_alone.Goals as goal

pub returns : goal.returns
returns c = pieces-all
