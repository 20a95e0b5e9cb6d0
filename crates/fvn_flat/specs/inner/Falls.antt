-- The parts of a node have fewer places.
use Rattle.std.specs.Prelude.{◌≤◌, ◌+◌, List, [], ◌∷◌}
use Rattle.std.proofs.Common.{arith}
use denote.Param.Weighed.{most}
use Rattle.fvn_forms.specs.Flat.{FlatTerm, fpack}
use Rattle.fvn_flat.specs.Weight.{places, places_all}
use Rattle.fvn_flat.specs.inner.Node.{form_of}
use Rattle.fvn_flat.specs.declared.flat.Node.{Node}
use Rattle.fvn_flat.specs.declared.flat.Node.TheVariants.{Var, App}
use Rattle.fvn_flat.specs.declared.flat.Flat.TheDeep.{deep-Node}

-- the greatest number of places of a form in a list is at most that of the whole list
pub most_le_places : (ts : List FlatTerm) → most (λ t. places t + 1) ts ≤ places_all (fpack ts) + 1
most_le_places [] = omega arith
most_le_places (t ∷ ts) = omega (arith, most_le_places ts)

-- the size of a node as a part is at most the number of places of its form
pub deep_le_places : (n : Node) → deep-Node n ≤ places (form_of n)
deep_le_places (Var x) = omega arith
deep_le_places (App f joined ts) = omega (arith, most_le_places ts.items)
