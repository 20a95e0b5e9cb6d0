-- The variables of all forms, each once.
use Rattle.std.proofs.Common.{[], ◌∷◌}
use Rattle.fvn_answer.specs.Lines.{forms_of, values_of}
use Rattle.fvn_answer.proofs.Collecting.{numbering}
use Rattle.fvn_answer.proofs.numbering.variables.Goals as goal

pub returns-in_ok-add_variables-in-Alone : goal.returns-in_ok-add_variables-in-Alone
returns-in_ok-add_variables-in-Alone c =
    rw (c.in-Alone.is, c.in_ok-add_variables-in-Alone.ensures, c.new-vars.ensures.items) (numbering (c.in-Alone.t.now ∷ []))

pub returns-in_ok-add_values-in-Values : goal.returns-in_ok-add_values-in-Values
returns-in_ok-add_values-in-Values c =
    rw (c.in-Values.is, c.in_ok-add_values-in-Values.ensures, c.new-vars.ensures.items) (numbering (forms_of (values_of c.in-Values.subst.now c.in-Values.list.now)))

pub returns-in_ok-add_values-in-Variant : goal.returns-in_ok-add_values-in-Variant
returns-in_ok-add_values-in-Variant c =
    rw (c.in-Variant.is, c.in_ok-add_values-in-Variant.ensures, c.in_ok-add_variables-in-Variant.ensures, c.new-vars.ensures.items)
    (numbering (c.in-Variant.t.now ∷ forms_of (values_of c.in-Variant.subst.now c.in-Variant.list.now)))
