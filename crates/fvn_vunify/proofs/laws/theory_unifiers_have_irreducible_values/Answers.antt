-- The law, by its lemma.
use Rattle.fvn_flat.specs.Problems.{variables_of}
use Rattle.fvn_vunify.proofs.IrreducibleValues.{theory_unifier_laws}
use Rattle.fvn_vunify.proofs.laws.theory_unifiers_have_irreducible_values.Goals as goal

pub returns : goal.returns
returns c = λ g good completed admissible decreasing ends problem kinds.
    theory_unifier_laws g
    (c.normal_forms_are_lawful.ensures g.declarations good completed g.equations admissible)
    (c.rewriting_is_lawful.ensures g.declarations g.equations)
    (c.theory_equality_is_lawful.ensures g.declarations g.equations)
    problem
    (c.instances_are_transitive.ensures g.declarations g.equations (variables_of problem))
    kinds decreasing ends
