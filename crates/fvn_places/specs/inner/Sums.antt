-- Sums that have no equal instances, since one has summands that the other's cannot be.
use Rattle.std.specs.Prelude.{◌≡◌, ◌≢◌, ◌≤◌, ◌<◌, ◌⊎◌, List, [], ◌∷◌, length, All, Contains, Some, None}
use Rattle.fvn_terms.specs.declared.plain.OpId.{OpId}
use Rattle.fvn_terms.specs.declared.declarations.Declarations.{Declarations}
use Rattle.fvn_terms.specs.Signature.{axioms}
use Rattle.fvn_terms.specs.Equality.{IsAssociative, identity}
use Rattle.fvn_forms.specs.Flat.{FlatTerm}
use Rattle.fvn_flat.specs.Forms.{head_of}
use Rattle.fvn_places.specs.Clashes.{NeverMeet}

module _ (d : Declarations) (f : OpId) where
  -- another operator than f heads the form, one without an identity, so that each instance is one summand under f
  pub record IsFirm (t : FlatTerm) : Type 0 where
    pub operator : OpId
    pub heads : head_of t ≡ Some operator
    pub is_other : operator ≢ f
    pub no_identity : identity (axioms d operator) ≡ None

  module _ (ts us : List FlatTerm) where
    -- one of the first, of which each instance is one summand, never meets any of the second
    pub record HasUnmet : Type 0 where
      pub summand : FlatTerm
      pub listed : Contains ts summand
      pub firm : IsFirm summand
      pub unmet : All (NeverMeet d summand) us

    -- each instance of the second is one summand, and they are fewer than the first, or one of these meets none of them
    pub record Exceeds : Type 0 where
      pub firm : All IsFirm us
      pub over : (length us < length ts) ⊎ HasUnmet

    -- the second are one form twice, and the first two that never meet, of which each instance is one summand
    pub record AreTwice : Type 0 where
      pub firm : All IsFirm ts
      pub first : FlatTerm
      pub second : FlatTerm
      pub twice : FlatTerm
      pub are : ts ≡ first ∷ second ∷ []
      pub both : us ≡ twice ∷ twice ∷ []
      pub never : NeverMeet d first second

  -- f makes sums and has no identity, and the summands of one exceed the other's, or cannot be one twice
  pub record SumsClash (ts us : List FlatTerm) : Type 0 where
    pub associative : IsAssociative (axioms d f)
    pub lasting : identity (axioms d f) ≡ None
    pub many : (2 ≤ length ts) × (2 ≤ length us)
    pub clash : Exceeds ts us ⊎ (Exceeds us ts ⊎ AreTwice ts us)
