-- New variables for those of a list.
use Rattle.std.proofs.Common.{◌≡◌, ℕ, ◌+◌, Bool, true, false, List, [], ◌∷◌, ◌++◌, Some, refl, sym, ap, ◌∙◌, subst, inl, inr}
use Rattle.std.specs.Prelude.{◌||◌, ◌⊎◌, if◌then◌else◌, Contains}
use Rattle.std.proofs.lemmas.List.Elements.{Contains-push_cases}
use Rattle.fvn_base.proofs.Membership.{contains_here, contains_later, contains_cases, contains_none}
use Rattle.fvn_terms.specs.declared.plain.Var.{Var}
use Rattle.fvn_terms.specs.Substitution.{same_var, Occurs, OccursAmong}
use Rattle.fvn_terms.proofs.Variables.{same_var_is}
use Rattle.fvn_forms.specs.Flat.{FlatTerm, FlatTerms, fvar, fapp, fnone, fmore, plain, plain_all}
use Rattle.fvn_flat.specs.Bindings.{Bindings, bound, form_or, value}
use Rattle.fvn_flat.specs.Drawn.{OccursInValues}
use Rattle.fvn_flat.specs.Solving.{substitution}
use Rattle.fvn_flat.specs.Variables.{listed, with_variable, with_variables, with_all_variables, fresh_for, renaming}
use Rattle.fvn_flat.proofs.Occurrences.{occurs_in_app}
use Rattle.fvn_flat.proofs.ListedVariables.{Distinct, with_variables_distinct, still_listed, occurring_listed}
use Rattle.fvn_narrow_children.specs.inner.Renaming.{value_variables}

-- the new variable for x
abbrev pub name_for : ℕ → List Var → Var → Var
name_for n [] x = x
name_for n (z ∷ names) x = if same_var z x then fresh_for n z else name_for (n + 1) names x

pub renamed_value : (n : ℕ) (names : List Var) (x : Var) → value (renaming n names) x ≡ fvar (name_for n names x)
renamed_value n [] x = refl
renamed_value n (z ∷ names) x = go (same_var z x) refl (renamed_value (n + 1) names x)
  where
    go : (b : Bool) → same_var z x ≡ b → value (renaming (n + 1) names) x ≡ fvar (name_for (n + 1) names x) → value (renaming n (z ∷ names)) x ≡ fvar (name_for n (z ∷ names) x)
    go true e rest =
        ap (λ b. form_or x (if b then Some (fvar (fresh_for n z)) else bound (renaming (n + 1) names) x)) e ∙ ap (λ b. fvar (if b then fresh_for n z else name_for (n + 1) names x)) (sym e)
    go false e rest =
        ap (λ b. form_or x (if b then Some (fvar (fresh_for n z)) else bound (renaming (n + 1) names) x)) e
        ∙ rest
        ∙ ap (λ b. fvar (if b then fresh_for n z else name_for (n + 1) names x)) (sym e)

pub name_sort : (n : ℕ) (names : List Var) (x : Var) → (name_for n names x).sort ≡ x.sort
name_sort n [] x = refl
name_sort n (z ∷ names) x = go (same_var z x) refl (name_sort (n + 1) names x)
  where
    go : (b : Bool) → same_var z x ≡ b → (name_for (n + 1) names x).sort ≡ x.sort → (name_for n (z ∷ names) x).sort ≡ x.sort
    go true e rest = ap (λ b. (if b then fresh_for n z else name_for (n + 1) names x).sort) e ∙ ap (λ (y : Var). y.sort) (same_var_is z x e)
    go false e rest = ap (λ b. (if b then fresh_for n z else name_for (n + 1) names x).sort) e ∙ rest

pub listed_contains : (vars : List Var) (x : Var) → listed vars x ≡ true → Contains vars x
listed_contains [] x e = cc
listed_contains (z ∷ vars) x e = go (same_var z x) refl (listed_contains vars x)
  where
    go : (b : Bool) → same_var z x ≡ b → (listed vars x ≡ true → Contains vars x) → Contains (z ∷ vars) x
    go true q rest = subst (λ y. Contains (y ∷ vars) x) (sym (same_var_is z x q)) (contains_here x vars)
    go false q rest = contains_later z vars x (rest (ap (λ b. b || listed vars x) (sym q) ∙ e))

-- what occurs in the value of one of the variables is listed
kept_listed : (s : Bindings) (vars list : List Var) (y : Var) → listed list y ≡ true → listed (value_variables s vars list) y ≡ true
kept_listed s [] list y e = e
kept_listed s (x ∷ vars) list y e = kept_listed s vars (with_variables (value s x) list) y (still_listed (value s x) list y e)

pub occurring_in_values : (s : Bindings) (vars list : List Var) (x y : Var) → Contains vars x → Occurs y (plain (value s x)) → listed (value_variables s vars list) y ≡ true
occurring_in_values s [] list x y c o = absurd (contains_none x c)
occurring_in_values s (z ∷ vars) list x y c o = go (contains_cases z vars x c) (λ i. occurring_in_values s vars (with_variables (value s z) list) x y i o)
  where
    go : (z ≡ x) ⊎ Contains vars x → (Contains vars x → listed (value_variables s (z ∷ vars) list) y ≡ true) → listed (value_variables s (z ∷ vars) list) y ≡ true
    go (inl q) rest = kept_listed s vars (with_variables (value s z) list) y (occurring_listed (value s z) list y (subst (λ w. Occurs y (plain (value s w))) (sym q) o))
    go (inr i) rest = rest i

pub values_distinct : (s : Bindings) (vars list : List Var) → Distinct list → Distinct (value_variables s vars list)
values_distinct s [] list h = h
values_distinct s (x ∷ vars) list h = values_distinct s vars (with_variables (value s x) list) (with_variables_distinct (value s x) list h)

-- what is listed was there, or occurs in the form
one_new : (list : List Var) (x y : Var) → Contains (with_variable list x) y → Contains list y ⊎ (x ≡ y)
one_new list x y c = go (listed list x) c
  where
    go : (b : Bool) → Contains (if b then list else list ++ x ∷ []) y → Contains list y ⊎ (x ≡ y)
    go true c = inl c
    go false c = Contains-push_cases list x y c

mutual
  from_form : (t : FlatTerm) (list : List Var) (y : Var) → Contains (with_variables t list) y → Contains list y ⊎ Occurs y (plain t)
  from_form (fvar x) list y c = elim (one_new list x y c) [ inl o ↦ inl o | inr e ↦ inr (sym e) ]
  from_form (fapp f joined ts) list y c = elim (from_forms ts list y c) [ inl o ↦ inl o | inr o ↦ inr ((occurs_in_app y f joined ts).1 o) ]

  from_forms : (ts : FlatTerms) (list : List Var) (y : Var) → Contains (with_all_variables ts list) y → Contains list y ⊎ OccursAmong y (plain_all ts)
  from_forms fnone list y c = inl c
  from_forms (fmore t ts) list y c = elim (from_forms ts (with_variables t list) y c) [
    | inr o ↦ inr (inr o)
    | inl o ↦ elim (from_form t list y o) [ inl a ↦ inl a | inr b ↦ inr (inl b) ]
  ]

-- or in the value of one of the variables
pub from_values : (s : Bindings) (vars list : List Var) (y : Var) → Contains (value_variables s vars list) y → Contains list y ⊎ OccursInValues vars (substitution s) y
from_values s [] list y c = inl c
from_values s (x ∷ vars) list y c = elim (from_values s vars (with_variables (value s x) list) y c) [
  | inr o ↦ inr (o.0, contains_later x vars o.0 o.1, o.2)
  | inl k ↦ elim (from_form (value s x) list y k) [ inl a ↦ inl a | inr b ↦ inr (x, contains_here x vars, b) ]
]
