-- Sums of which two summands are one form.
use Rattle.std.specs.Prelude.{◌≡◌, Bool, true, false, ◌||◌, List, [], ◌∷◌, Some, None}
use Rattle.fvn_terms.specs.declared.plain.OpId.{OpId}
use Rattle.fvn_terms.specs.declared.declarations.Declarations.{Declarations}
use Rattle.fvn_terms.specs.Signature.{axioms}
use Rattle.fvn_terms.specs.Equality.{IsAssociative, identity}
use Rattle.fvn_forms.specs.Flat.{FlatTerm}
use Rattle.fvn_forms.specs.Order.{same_flat}
use Rattle.fvn_flat.specs.Forms.{head_of, args_of}

-- whether two forms side by side are one
abbrev pub has_twins : List FlatTerm → Bool
has_twins [] = false
has_twins (t ∷ []) = false
has_twins (t ∷ u ∷ us) = same_flat t u || has_twins (u ∷ us)

-- the first is a sum without an identity that has a summand twice, and the second has no argument twice
pub record LacksTwins (d : Declarations) (p t : FlatTerm) : Type 0 where
  pub operator : OpId
  pub heads : head_of p ≡ Some operator
  pub associative : IsAssociative (axioms d operator)
  pub lasting : identity (axioms d operator) ≡ None
  pub twins : has_twins (args_of p) ≡ true
  pub none : has_twins (args_of t) ≡ false
