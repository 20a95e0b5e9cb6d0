-- The lemma is the law.
use Rattle.fvn_lex.proofs.JoinLemmas.{piece-form, form-piece}
use Rattle.fvn_lex.proofs.laws.pieces_by_form.Goals as goal

pub returns : goal.returns
returns c = λ p. (piece-form p, form-piece p)
