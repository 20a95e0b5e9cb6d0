-- Values of a variant's variables: their instances, and which are reducible.
use Rattle.std.specs.Prelude.{◌≡◌, ◌≤◌, ◌<◌, ℕ, Bool, true, false, List, All, Contains, None, Some}
use Rattle.fvn_terms.specs.declared.plain.Var.{Var}
use Rattle.fvn_terms.specs.declared.declarations.Declarations.{Declarations}
use Rattle.fvn_terms.specs.Term.{Term}
use Rattle.fvn_terms.specs.Theory.{Equations}
use Rattle.fvn_terms.specs.Rewriting.{IsReducible, IsIrreducible}
use Rattle.fvn_forms.specs.Flat.{FlatTerm, symbols}
use Rattle.fvn_forms.specs.Canon.{inst}
use Rattle.fvn_flat.specs.Bindings.{Bindings, bound, value, BindingsFit}
use Rattle.fvn_flat.specs.Solving.{substitution}
use Rattle.fvn_rewrite_laws.specs.Normalised.{counted}
use Rattle.fvn_cover.specs.declared.variant.Variant.{Variant}

-- r has, for each variable of the variant, the instance of its value, and no other pair
pub record AreValuesUnder (d : Declarations) (v : Variant) (s r : Bindings) : Type 0 where
  pub values : (x : Var) → Contains v.vars x → value r x ≡ inst d (value s) (value v.subst x)
  pub others : (x : Var) → (Contains v.vars x → ⊥) → bound r x ≡ None
  pub fits : BindingsFit d r

-- the form is the value of one of the variables, and has over so many symbols
pub record IsLargeValue (vars : List Var) (s : Bindings) (size : ℕ) (t : FlatTerm) : Type 0 where
  pub variable : Var
  pub listed : Contains vars variable
  pub is : t ≡ value s variable
  pub large : size < symbols t

-- the form is the value of the variable, and has over so many symbols
pub record IsLargeAt (s : Bindings) (size : ℕ) (x : Var) (t : FlatTerm) : Type 0 where
  pub is : t ≡ value s x
  pub large : size < symbols t

-- the variable is bound to no form with over so many symbols, as they are counted
abbrev pub IsSmallAt : Bindings → ℕ → Var → Type 0
IsSmallAt s size x = (t : FlatTerm) → bound s x ≡ Some t → counted t ≤ size

-- none of these variables is
abbrev pub AreSmallValues : List Var → Bindings → ℕ → Type 0
AreSmallValues vars s size = All (IsSmallAt s size) vars

module _ (d : Declarations) (equations : Equations) where
  -- whether a step leads on from the term
  abbrev pub ReducibleAs : Term → Bool → Type 0
  ReducibleAs t true = IsReducible d equations t
  ReducibleAs t false = IsIrreducible d equations t

  module _ (vars : List Var) (s : Bindings) where
    -- no value of these variables is reducible
    abbrev pub AreIrreducible : Type 0
    AreIrreducible = All (λ x. IsIrreducible d equations (substitution s x)) vars

    -- one of them has a reducible value
    pub record HaveReducible : Type 0 where
      pub variable : Var
      pub listed : Contains vars variable
      pub reducible : IsReducible d equations (substitution s variable)

    -- whether one of them has a reducible value
    abbrev pub AreReducibleAs : Bool → Type 0
    AreReducibleAs true = HaveReducible
    AreReducibleAs false = AreIrreducible
