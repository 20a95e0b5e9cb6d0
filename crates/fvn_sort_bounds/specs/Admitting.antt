-- Sorts that a sum, or the identity, may have.
use Rattle.std.specs.Prelude.{◌≡◌, [], ◌∷◌, Some}
use Rattle.fvn_terms.specs.declared.plain.OpId.{OpId}
use Rattle.fvn_terms.specs.declared.plain.SortId.{SortId}
use Rattle.fvn_terms.specs.declared.declarations.Declarations.{Declarations}
use Rattle.fvn_terms.specs.Signature.{axioms, AtOrBelow}
use Rattle.fvn_terms.specs.Equality.{identity}
use Rattle.fvn_forms.specs.Good.{IsOfKind}
use Rattle.fvn_forms.specs.Ranks.{result}

module _ (d : Declarations) (f : OpId) where
  -- the least sort of a sum by f, over two sorts of its kind, is s or below it
  pub record AdmitsSum (s : SortId) : Type 0 where
    pub left : SortId
    pub right : SortId
    pub left_fits : IsOfKind d f left
    pub right_fits : IsOfKind d f right
    pub below : AtOrBelow d (result d f (left ∷ right ∷ [])) s

  -- f has an identity, and the least sort of that is s or below it
  pub record AdmitsIdentity (s : SortId) : Type 0 where
    pub unit : OpId
    pub is_identity : identity (axioms d f) ≡ Some unit
    pub below : AtOrBelow d (result d unit []) s
