-- The parts of a content have less weight.
use Rattle.std.specs.Prelude.{◌≤◌, ◌+◌, List, [], ◌∷◌}
use Rattle.std.proofs.Common.{arith}
use denote.Param.Weighed.{most}
use Rattle.fvn_rewrite.specs.inner.SortedTerms.{SortedTerm, spack, weight, weight_all}
use Rattle.fvn_rewrite.specs.inner.Content.{term_in}
use Rattle.fvn_rewrite.specs.declared.shared.Content.{Content}
use Rattle.fvn_rewrite.specs.declared.shared.Content.TheVariants.{Var, App}
use Rattle.fvn_rewrite.specs.declared.shared.Shared.TheDeep.{deep-Content}

-- the greatest weight of a term in a list is at most that of the whole list
pub most_le_weight : (ts : List SortedTerm) → most (λ t. weight t + 1) ts ≤ weight_all (spack ts) + 1
most_le_weight [] = omega arith
most_le_weight (t ∷ ts) = omega (arith, most_le_weight ts)

-- the size of a content as a part is at most the weight of its term
pub deep_le_weight : (n : Content) → deep-Content n ≤ weight (term_in n)
deep_le_weight (Var x) = omega arith
deep_le_weight (App f s symbols ts) = omega (arith, most_le_weight ts.items)
