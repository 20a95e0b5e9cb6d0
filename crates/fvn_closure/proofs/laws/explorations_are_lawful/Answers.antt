-- a child below the last level is a variant; complete sets that are apart are shortest
use Rattle.fvn_closure.proofs.Known.{known_of}
use Rattle.fvn_closure.proofs.Ending.{exploration_laws}
use Rattle.fvn_closure.proofs.laws.explorations_are_lawful.Goals as goal

pub returns : goal.returns
returns g c = λ start explorable.
    let s = g.E.Expander.setting c.args.expander.now in
    let drawn = g.E.Expander.drawn c.args.expander.now in
    let known = known_of c.rewriting_is_lawful.ensures c.sequences_are_lawful.ensures c.lists_are_lawful.ensures c.kinded_theories_are_lawful.ensures c.rules_are_lawful.ensures s start explorable in
    exploration_laws s start explorable known c.covering_is_reflexive_and_transitive.ensures drawn
