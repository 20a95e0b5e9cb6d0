-- The lemma is the law.
use Rattle.fvn_lex.proofs.CutLemmas.{cut-lex, lex-row}
use Rattle.fvn_lex.proofs.laws.tokens_are_the_cut.Goals as goal

pub returns : goal.returns
returns c = λ bytes list. (cut-lex bytes list, lex-row bytes list)
