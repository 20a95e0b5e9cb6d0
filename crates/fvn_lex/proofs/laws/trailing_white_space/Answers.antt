-- The lemma is the law.
use Rattle.fvn_lex.proofs.TrailLemmas.{lex-trail}
use Rattle.fvn_lex.proofs.laws.trailing_white_space.Goals as goal

pub returns : goal.returns
returns c = lex-trail
