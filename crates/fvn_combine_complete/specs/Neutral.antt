-- Operators whose identity leaves sorts alone.
use Rattle.std.specs.Prelude.{◌≡◌, [], ◌∷◌, Some}
use Rattle.fvn_terms.specs.declared.plain.OpId.{OpId}
use Rattle.fvn_terms.specs.declared.plain.SortId.{SortId}
use Rattle.fvn_terms.specs.declared.declarations.Declarations.{Declarations}
use Rattle.fvn_terms.specs.Signature.{axioms, AtOrBelow}
use Rattle.fvn_terms.specs.Equality.{identity}
use Rattle.fvn_forms.specs.Good.{IsOfKind}
use Rattle.fvn_forms.specs.Ranks.{result}

module _ (d : Declarations) where
  -- the sum by f of a term of this sort with the constant e has the sort, or one below it
  abbrev pub Absorbs : OpId → OpId → SortId → Type 0
  Absorbs f e a = AtOrBelow d (result d f (a ∷ result d e [] ∷ [])) a

  -- f has an identity, and a sum with it has no greater sort than without it
  pub record IsNeutral (f : OpId) : Type 0 where
    pub unit : OpId
    pub is_identity : identity (axioms d f) ≡ Some unit
    pub absorbs : (a : SortId) → IsOfKind d f a → Absorbs f unit a
