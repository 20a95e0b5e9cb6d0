-- The lemma is the law.
use Rattle.fvn_lex.proofs.SpaceLemmas.{space-needed}
use Rattle.fvn_lex.proofs.laws.spaces_are_needed.Goals as goal

pub returns : goal.returns
returns c = space-needed
