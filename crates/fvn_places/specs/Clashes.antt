-- Forms of which no instances are equal modulo the axioms.
use Rattle.std.specs.Prelude.{◌≡◌, ℕ, List, Some, slice_get}
use Rattle.fvn_terms.specs.declared.declarations.Declarations.{Declarations}
use Rattle.fvn_terms.specs.Substitution.{Substitution, apply}
use Rattle.fvn_forms.specs.Flat.{FlatTerm, plain}
use Rattle.fvn_forms.specs.Canon.{canon}

-- no instance of the first has the flat form of one of the second
abbrev pub NeverMeet : Declarations → FlatTerm → FlatTerm → Type 0
NeverMeet d t u = (s c : Substitution) → canon d (apply s (plain t)) ≡ canon d (apply c (plain u)) → ⊥

-- so it is with two forms that stand side by side
pub record SomeNeverMeet (d : Declarations) (ts us : List FlatTerm) : Type 0 where
  pub place : ℕ
  pub first : FlatTerm
  pub second : FlatTerm
  pub in_first : slice_get ts place ≡ Some first
  pub in_second : slice_get us place ≡ Some second
  pub never : NeverMeet d first second
