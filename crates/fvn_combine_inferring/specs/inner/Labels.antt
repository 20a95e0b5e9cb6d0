-- Operators that use a class beside the two that may head its value.
use Rattle.std.specs.Prelude.{◌≢◌, ℕ}
use Rattle.fvn_terms.specs.declared.plain.OpId.{OpId}
use Rattle.fvn_terms.specs.declared.declarations.Declarations.{Declarations}
use Rattle.fvn_combine_leaves.specs.Users.{IsMarked}
use Rattle.fvn_combine_leaves.specs.declared.reading.Sums.{Sums}
use Rattle.fvn_combine_inferring.specs.inner.Bounds.{IsOtherHead}

-- where the operator is not the first of two, and uses class k, neither of both heads a sum by it, or its identity
abbrev pub IsAside : Declarations → ℕ → OpId × OpId → Sums → Type 0
IsAside d k p e = e.operator ≢ p.0 → IsMarked e k → IsOtherHead d e.operator p.0 × IsOtherHead d e.operator p.1
