-- a child is reached from an instance of its parent
use Rattle.fvn_closure.proofs.Known.{known_of}
use Rattle.fvn_closure.proofs.Found.{child_found}
use Rattle.fvn_closure.proofs.laws.children_are_variants.Goals as goal

pub returns : goal.returns
returns g c = λ start explorable.
    let s = g.E.Expander.setting c.args.expander.now in
    let drawn = g.E.Expander.drawn c.args.expander.now in
    let known = known_of c.rewriting_is_lawful.ensures c.sequences_are_lawful.ensures c.lists_are_lawful.ensures c.kinded_theories_are_lawful.ensures c.rules_are_lawful.ensures s start explorable in
    child_found s start explorable known drawn
