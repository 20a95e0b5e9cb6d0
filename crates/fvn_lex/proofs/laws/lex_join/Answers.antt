-- The lemma is the law.
use Rattle.fvn_lex.proofs.JoinLemmas.{join-read}
use Rattle.fvn_lex.proofs.laws.lex_join.Goals as goal

pub returns : goal.returns
returns c = join-read
