-- The law, by its lemma.
use Rattle.fvn_forms.specs.Flat.{plain}
use Rattle.fvn_lifting.proofs.Turning.{some_lifts}
use Rattle.fvn_lifting.proofs.laws.turns_lift.Goals as goal

pub returns : goal.returns
returns c = λ g vars fixed from at left first beside old unifiers complete over children turned s by keeps meet.
    some_lifts g vars fixed from (c.rewriting_is_lawful.ensures g.declarations g.equations) left first old children unifiers turned s by keeps
    (c.meetings_come_from_unifiers.ensures g.declarations first (plain at) (plain left) beside unifiers complete over s by meet)
