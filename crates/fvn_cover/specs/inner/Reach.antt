-- Variables that no well-sorted substitution takes to others.
use Rattle.std.specs.Prelude.{◌≡◌}
use Rattle.fvn_terms.specs.declared.plain.Var.{Var}
use Rattle.fvn_terms.specs.declared.declarations.Declarations.{Declarations}
use Rattle.fvn_terms.specs.Signature.{AtOrBelow}
use Rattle.fvn_forms.specs.Flat.{FlatTerm, fvar}

-- both forms are variables, and the sort of the second is not at or below that of the first
pub record IsOutOfReach (d : Declarations) (p t : FlatTerm) : Type 0 where
  pub pattern : Var
  pub target : Var
  pub is_pattern : p ≡ fvar pattern
  pub is_target : t ≡ fvar target
  pub not_below : AtOrBelow d target.sort pattern.sort → ⊥
