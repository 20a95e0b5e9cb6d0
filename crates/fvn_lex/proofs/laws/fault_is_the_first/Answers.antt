-- The lemma is the law.
use Rattle.fvn_lex.proofs.CutLemmas.{fault-lex, lex-fault}
use Rattle.fvn_lex.proofs.laws.fault_is_the_first.Goals as goal

pub returns : goal.returns
returns c = λ bytes fault. (fault-lex bytes fault, lex-fault bytes fault)
