-- Variants of a list of terms, and when one covers another (Comon-Lundh and Delaune 2005; Escobar, Sasse and Meseguer 2012).
use Rattle.std.specs.Prelude.{◌≤◌, ℕ, List, map, All, Any, Contains}
use Rattle.std.specs.List.{AllZip}
use Rattle.fvn_terms.specs.declared.plain.Var.{Var}
use Rattle.fvn_terms.specs.declared.declarations.Declarations.{Declarations}
use Rattle.fvn_terms.specs.Term.{Term}
use Rattle.fvn_terms.specs.Substitution.{Substitution, apply, Occurs}
use Rattle.fvn_terms.specs.Equality.{BEqual}
use Rattle.fvn_terms.specs.Sorts.{IsWellSorted}
use Rattle.fvn_terms.specs.Theory.{Equations}
use Rattle.fvn_terms.specs.Rewriting.{IsIrreducible, IsIrreducibleList, ListSequence}

-- x occurs in some term of the list
abbrev pub OccursInSome : Var → List Term → Type 0
OccursInSome x ts = Any (Occurs x) ts

module _ (d : Declarations) (equations : Equations) where
  -- Under a well-sorted substitution with irreducible values, under which the terms of `fixed` stay irreducible,
  -- the terms are brought to irreducible terms.
  pub record IsVariant (fixed terms : List Term) (reached : List Term) (by : Substitution) : Type 0 where
    pub well_sorted : IsWellSorted d by
    pub values : (x : Var) → OccursInSome x terms → IsIrreducible d equations (by x)
    pub stay : All (λ t. IsIrreducible d equations (apply by t)) fixed
    pub irreducible : IsIrreducibleList d equations reached
    pub steps : ℕ
    pub sequence : ListSequence d equations steps (map (apply by) terms) reached

  -- no sequence from the instance of the terms has more steps than this
  abbrev pub IsWithin : ℕ → List Term → Substitution → Type 0
  IsWithin most terms s = (k : ℕ) (us : List Term) → ListSequence d equations k (map (apply s) terms) us → k ≤ most

-- One well-sorted substitution makes the terms and, on these variables, the values of the second from those of the first.
pub record Covers (d : Declarations) (vars : List Var) (terms : List Term) (s : Substitution) (others : List Term) (c : Substitution) : Type 0 where
  pub by : Substitution
  pub well_sorted : IsWellSorted d by
  pub same_terms : AllZip (BEqual d) others (map (apply by) terms)
  pub same_values : (x : Var) → Contains vars x → BEqual d (c x) (apply by (s x))
