-- Substitutions of flat forms, as lists of pairs.
use Rattle.std.specs.Prelude.{◌≡◌, Bool, not, if◌then◌else◌, List, [], ◌∷◌, ◌++◌, map, filter, Contains, Option, Some, None, is_some}
use Rattle.fvn_terms.specs.declared.plain.Var.{Var}
use Rattle.fvn_terms.specs.declared.declarations.Declarations.{Declarations}
use Rattle.fvn_terms.specs.Substitution.{apply, same_var}
use Rattle.fvn_terms.specs.Equality.{BEqual}
use Rattle.fvn_forms.specs.Flat.{FlatTerm, fvar, plain}
use Rattle.fvn_forms.specs.Canon.{inst}
use Rattle.fvn_forms.specs.LeastSort.{IsFlatSubstitution}

-- variables with the flat forms that they are sent to
abbrev pub Bindings : Type 0
Bindings = List (Var × FlatTerm)

-- what the pairs give x
abbrev pub bound : Bindings → Var → Option FlatTerm
bound [] x = None
bound (p ∷ s) x = if same_var p.0 x then Some p.1 else bound s x

-- the form that is given, or else x itself
abbrev pub form_or : Var → Option FlatTerm → FlatTerm
form_or x None = fvar x
form_or x (Some t) = t

-- the substitution that the pairs stand for: a variable without a pair stays
abbrev pub value : Bindings → Var → FlatTerm
value s x = form_or x (bound s x)

-- each variable has one pair
abbrev pub BindsOnce : Bindings → Type 0
BindsOnce [] = Unit {0}
BindsOnce (p ∷ s) = (bound s p.0 ≡ None) × BindsOnce s

-- each variable is bound to a form that is flat in the signature, and of the variable's kind
abbrev pub BindingsFit : Declarations → Bindings → Type 0
BindingsFit d s = IsFlatSubstitution d (value s)

-- the plain term of t with all bound variables replaced is equal modulo the axioms to that of u
abbrev pub IsInstanceBy : Declarations → Bindings → FlatTerm → FlatTerm → Type 0
IsInstanceBy d s t u = BEqual d (apply (λ x. plain (value s x)) (plain t)) (plain u)

-- the pairs with their terms changed
abbrev pub changed : (FlatTerm → FlatTerm) → Bindings → Bindings
changed g s = map (λ p. (p.0, g p.1)) s

-- the pairs whose variable passes the test
abbrev pub chosen : (Var → Bool) → Bindings → Bindings
chosen test s = filter (λ p. test p.0) s

-- whether x has no pair
abbrev pub is_free : Bindings → Var → Bool
is_free s x = not (is_some (bound s x))

-- the pairs of s with c applied to their terms, and then those of c for other variables
abbrev pub composed : Declarations → Bindings → Bindings → Bindings
composed d s c = changed (inst d (value c)) s ++ chosen (is_free s) c

-- r is s and then c, on every form
abbrev pub IsOneThenOther : Declarations → Bindings → Bindings → Bindings → Type 0
IsOneThenOther d s c r = (t : FlatTerm) → inst d (value r) t ≡ inst d (value c) (inst d (value s) t)

-- r has the pairs of s for the listed variables, and no others
pub record IsRestriction (vars : List Var) (s r : Bindings) : Type 0 where
  pub kept : (x : Var) → Contains vars x → bound r x ≡ bound s x
  pub others : (x : Var) → (Contains vars x → ⊥) → bound r x ≡ None
