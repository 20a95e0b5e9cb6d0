-- The lemma is the law.
use Rattle.fvn_lex.proofs.SpanLemmas.{cut-slices}
use Rattle.fvn_lex.proofs.laws.texts_are_slices.Goals as goal

pub returns : goal.returns
returns c = cut-slices
