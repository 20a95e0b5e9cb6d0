-- The law, by its lemma.
use Rattle.fvn_lifting.proofs.Joining.{comes_from_some}
use Rattle.fvn_lifting.proofs.laws.meetings_come_from_unifiers.Goals as goal

pub returns : goal.returns
returns c = λ d first t u beside unifiers complete over s by meet. comes_from_some d first t u beside s by meet unifiers complete over
