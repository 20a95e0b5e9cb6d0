-- The variables of a term, listed.
use Rattle.std.proofs.Common.{◌≡◌, ◌⊎◌, Bool, true, false, List, [], ◌∷◌, ◌++◌, refl, sym, subst, inl, inr}
use Rattle.std.specs.Prelude.{if◌then◌else◌, fold}
use Rattle.std.specs.List.{Contains}
use Rattle.std.proofs.lemmas.Bool.{or_cases, or_left, or_right, false≢true}
use Rattle.std.proofs.lemmas.List.Elements.{Contains-append_left, Contains-push, Contains-push_cases}
use Rattle.fvn_base.proofs.Membership.{contains_here, contains_later, contains_cases, contains_none}
use Rattle.fvn_terms.specs.declared.plain.Var.{Var}
use Rattle.fvn_terms.specs.Term.{Term}
use Rattle.fvn_terms.specs.Substitution.{same_var, Occurs}
use Rattle.fvn_flat.specs.Problems.{variables}
use Rattle.fvn_flat.specs.Variables.{listed, with_variable}
use Rattle.fvn_flat.proofs.Binding.{same_var_is, same_var_itself}
use Rattle.fvn_flat.proofs.VariableLists.{variables_list, variables_occur}
use Rattle.fvn_rewrite_laws.specs.Choices.{distinct_variables_of}

pub var_listed : (vars : List Var) (x : Var) → listed vars x ≡ true → Contains vars x
var_listed [] x h = absurd (false≢true h)
var_listed (y ∷ vars) x h = elim (or_cases (same_var y x) (listed vars x) h) as (λ _. Contains (y ∷ vars) x) [
  | inl p ↦ subst (Contains (y ∷ vars)) (same_var_is y x p) (contains_here y vars)
  | inr r ↦ contains_later y vars x (var_listed vars x r)
]

pub listed_var : (vars : List Var) (x : Var) → Contains vars x → listed vars x ≡ true
listed_var [] x h = absurd (contains_none x h)
listed_var (y ∷ vars) x h = elim (contains_cases y vars x h) as (λ _. listed (y ∷ vars) x ≡ true) [
  | inl p ↦ or_left (same_var y x) (listed vars x) (subst (λ z. same_var y z ≡ true) p (same_var_itself y))
  | inr i ↦ or_right (same_var y x) (listed vars x) (listed_var vars x i)
]

-- whether a variable occurs in a term
abbrev pub occurs_test : Var → Term → Bool
occurs_test x t = listed (variables t) x

pub occurs_if : (x : Var) (t : Term) → occurs_test x t ≡ true → Occurs x t
occurs_if x t h = variables_occur x t (var_listed (variables t) x h)

pub test_if : (x : Var) (t : Term) → Occurs x t → occurs_test x t ≡ true
test_if x t o = listed_var (variables t) x (variables_list x t o)

still_listed : (vars : List Var) (y x : Var) → Contains vars x → Contains (with_variable vars y) x
still_listed vars y x h = go (listed vars y) where
  go : (b : Bool) → Contains (if b then vars else vars ++ y ∷ []) x
  go true = h
  go false = Contains-append_left vars (y ∷ []) x h

now_listed : (vars : List Var) (x : Var) → Contains (with_variable vars x) x
now_listed vars x = go (listed vars x) refl where
  go : (b : Bool) → listed vars x ≡ b → Contains (if b then vars else vars ++ x ∷ []) x
  go true p = var_listed vars x p
  go false p = Contains-push vars x

only_listed : (vars : List Var) (y x : Var) → Contains (with_variable vars y) x → Contains vars x ⊎ (x ≡ y)
only_listed vars y x h = go (listed vars y) h where
  go : (b : Bool) → Contains (if b then vars else vars ++ y ∷ []) x → Contains vars x ⊎ (x ≡ y)
  go true c = inl c
  go false c = elim (Contains-push_cases vars y x c) as (λ _. Contains vars x ⊎ (x ≡ y)) [ inl i ↦ inl i | inr e ↦ inr (sym e) ]

kept_listed : (xs vars : List Var) (x : Var) → Contains vars x → Contains (fold with_variable vars xs) x
kept_listed [] vars x h = h
kept_listed (y ∷ xs) vars x h = kept_listed xs (with_variable vars y) x (still_listed vars y x h)

each_listed : (xs vars : List Var) (x : Var) → Contains xs x → Contains (fold with_variable vars xs) x
each_listed [] vars x h = absurd (contains_none x h)
each_listed (y ∷ xs) vars x h = elim (contains_cases y xs x h) as (λ _. Contains (fold with_variable vars (y ∷ xs)) x) [
  | inl e ↦ kept_listed xs (with_variable vars y) x (subst (Contains (with_variable vars y)) e (now_listed vars y))
  | inr i ↦ each_listed xs (with_variable vars y) x i
]

none_else_listed : (xs vars : List Var) (x : Var) → Contains (fold with_variable vars xs) x → Contains vars x ⊎ Contains xs x
none_else_listed [] vars x h = inl h
none_else_listed (y ∷ xs) vars x h = go (none_else_listed xs (with_variable vars y) x h) where
  at : Contains vars x ⊎ (x ≡ y) → Contains vars x ⊎ Contains (y ∷ xs) x
  at (inl c) = inl c
  at (inr e) = inr (subst (Contains (y ∷ xs)) (sym e) (contains_here y xs))

  go : Contains (with_variable vars y) x ⊎ Contains xs x → Contains vars x ⊎ Contains (y ∷ xs) x
  go (inl c) = at (only_listed vars y x c)
  go (inr i) = inr (contains_later y xs x i)

-- the distinct variables of a term are those that occur
pub distinct_listed : (t : Term) (x : Var) → Occurs x t → Contains (distinct_variables_of t) x
distinct_listed t x o = each_listed (variables t) [] x (variables_list x t o)

pub distinct_occurs : (t : Term) (x : Var) → Contains (distinct_variables_of t) x → Occurs x t
distinct_occurs t x h = variables_occur x t (elim (none_else_listed (variables t) [] x h) as (λ _. Contains (variables t) x) [ inl c ↦ absurd (contains_none x c) | inr i ↦ i ])
