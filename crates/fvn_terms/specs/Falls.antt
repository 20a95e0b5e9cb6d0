-- The arguments of a term have fewer nodes than the term.
use Rattle.std.specs.Prelude.{◌≤◌, ◌+◌, max, List, [], ◌∷◌}
use Rattle.std.proofs.Common.{zero-le}
use Rattle.std.proofs.Math.Nat.{max-le, le_refl, le_trans, le-add_right, le-add_left}
use denote.Param.Weighed.{most}
use Rattle.fvn_terms.specs.declared.plain.Plain.{Plain}
use Rattle.fvn_terms.specs.declared.plain.Plain.TheVariants.{Var, App}
use Rattle.fvn_terms.specs.declared.plain.Args.TheDeep.{deep-Plain}
use Rattle.fvn_terms.specs.Term.{nodes, nodes_all}
use Rattle.fvn_terms.specs.Plain.{term, terms}

-- the size of a plain term as a part is at most its number of nodes
pub deep_le_nodes : (t : Plain) → deep-Plain t ≤ nodes (term t)
deep_le_nodes (Var x) = zero-le
deep_le_nodes (App f us) = max-le (le_refl (nodes_all us + 1)) zero-le

-- the greatest such size in a list is at most the number of nodes of the list
pub most_le_nodes : (ts : List Plain) → most deep-Plain ts ≤ nodes_all (terms ts)
most_le_nodes [] = le_refl 0
most_le_nodes (t ∷ ts) =
    max-le (le_trans (deep_le_nodes t) (le-add_right (nodes (term t)) (nodes_all (terms ts)))) (le_trans (most_le_nodes ts) (le-add_left (nodes_all (terms ts)) (nodes (term t))))

-- what the size of a list of arguments asks of its parts
pub args_fall : (ts : List Plain) → max (most deep-Plain ts) 0 ≤ nodes_all (terms ts)
args_fall ts = max-le (most_le_nodes ts) zero-le
