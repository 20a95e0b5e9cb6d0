-- Fresh variables for those of a form.
use Rattle.std.proofs.Common.{◌≡◌, ℕ, ◌+◌, ◌<◌, ◌≤◌, Bool, true, false, List, [], ◌∷◌, ◌++◌, length, take, get_or, Some, None, refl, sym, ap, ◌∙◌, subst, arith}
use Rattle.std.specs.Prelude.{◌||◌, if◌then◌else◌}
use Rattle.std.proofs.lemmas.Bool.{or_parts}
use Rattle.std.proofs.lemmas.List.{take_more, length-take}
use Rattle.fvn_terms.specs.declared.plain.Var.{Var}
use Rattle.fvn_terms.specs.declared.declarations.Declarations.{Declarations}
use Rattle.fvn_terms.specs.Term.{nodes_all}
use Rattle.fvn_terms.specs.Signature.{kind, IsSort, HasKind}
use Rattle.fvn_terms.specs.Substitution.{same_var}
use Rattle.fvn_forms.specs.Flat.{FlatTerm, FlatTerms, fvar, fapp, fnone, fmore, plain, plain_all, symbols}
use Rattle.fvn_forms.specs.Settled.{Settled}
use Rattle.fvn_forms.proofs.Sizes.{symbols_all, symbols_joined}
use Rattle.fvn_flat.specs.Bindings.{bound, form_or, value, BindsOnce, BindingsFit}
use Rattle.fvn_flat.specs.Variables.{listed, with_variable, with_variables, with_all_variables, distinct_variables, fresh_for, renaming, OccursInForm, RenamesApart}
use Rattle.fvn_flat.proofs.Binding.{same_var_is}
use Rattle.fvn_flat.proofs.ListedVariables.{Distinct, with_variables_distinct, occurring_listed}

bound_none : (n : ℕ) (vars : List Var) (x : Var) → listed vars x ≡ false → bound (renaming n vars) x ≡ None
bound_none n [] x e = refl
bound_none n (y ∷ vars) x e =
    let both = or_parts (same_var y x) (listed vars x) e in
    ap (λ b. if b then Some (fvar (fresh_for n y)) else bound (renaming (n + 1) vars) x) both.0 ∙ bound_none (n + 1) vars x both.1

pub renaming_binds_once : (n : ℕ) (vars : List Var) → Distinct vars → BindsOnce (renaming n vars)
renaming_binds_once n [] h = tt
renaming_binds_once n (x ∷ vars) h = (bound_none (n + 1) vars x h.0, renaming_binds_once (n + 1) vars h.1)

pub variables_are_distinct : (t : FlatTerm) → Distinct (distinct_variables t)
variables_are_distinct t = with_variables_distinct t [] tt

length_push : (vars : List Var) (x : Var) → length (vars ++ x ∷ []) ≡ length vars + 1
length_push [] x = refl
length_push (y ∷ vars) x = let e = length_push vars x in omega arith

with_variable_length : (vars : List Var) (x : Var) → length (with_variable vars x) ≤ length vars + 1
with_variable_length vars x = go (listed vars x)
  where
    go : (b : Bool) → length (if b then vars else vars ++ x ∷ []) ≤ length vars + 1
    go true = omega arith
    go false = let e = length_push vars x in omega arith

mutual
  with_variables_length : (t : FlatTerm) (vars : List Var) → length (with_variables t vars) ≤ length vars + symbols t
  with_variables_length (fvar x) vars = with_variable_length vars x
  with_variables_length (fapp f false ts) vars = let e = with_all_length ts vars in omega arith
  with_variables_length (fapp f true fnone) vars = omega arith
  with_variables_length (fapp f true (fmore t ts)) vars =
      let e = with_all_length (fmore t ts) vars in
      let a = symbols_joined f t ts in
      let b = symbols_all (fmore t ts) in
      omega arith

  with_all_length : (ts : FlatTerms) (vars : List Var) → length (with_all_variables ts vars) ≤ length vars + nodes_all (plain_all ts)
  with_all_length fnone vars = omega arith
  with_all_length (fmore t ts) vars =
      let a = with_variables_length t vars in
      let b = with_all_length ts (with_variables t vars) in
      omega arith

-- no more variables than symbols
pub few_variables : (t : FlatTerm) → length (distinct_variables t) ≤ symbols t
few_variables t = let e = with_variables_length t [] in omega arith

renaming-push : (n : ℕ) (vars : List Var) (x : Var) → renaming n (vars ++ x ∷ []) ≡ renaming n vars ++ (x, fvar (fresh_for (n + length vars) x)) ∷ []
renaming-push n [] x = let e : n ≡ n + 0 = omega arith in ap (λ m. (x, fvar (fresh_for m x)) ∷ []) e
renaming-push n (y ∷ vars) x =
    let e : n + 1 + length vars ≡ n + length (y ∷ vars) = omega arith in
    ap (λ s. (y, fvar (fresh_for n y)) ∷ s) (renaming-push (n + 1) vars x ∙ ap (λ m. renaming (n + 1) vars ++ (x, fvar (fresh_for m x)) ∷ []) e)

-- one more fresh variable
pub renaming-step : (n : ℕ) (vars : List Var) (i : ℕ) (d : Var) → i < length vars → renaming n (take (i + 1) vars) ≡ renaming n (take i vars) ++ (get_or vars i d, fvar (fresh_for (n + i) (get_or vars i d))) ∷ []
renaming-step n vars i d within =
    let a = length-take i vars in
    let e : n + length (take i vars) ≡ n + i = omega arith in
    ap (renaming n) (take_more vars i d within) ∙ renaming-push n (take i vars) (get_or vars i d) ∙ ap (λ m. renaming n (take i vars) ++ (get_or vars i d, fvar (fresh_for m (get_or vars i d))) ∷ []) e

value_renamed : (n : ℕ) (vars : List Var) (x : Var) → (y : Var) × (value (renaming n vars) x ≡ fvar y) × (y.sort ≡ x.sort)
value_renamed n [] x = (x, refl, refl)
value_renamed n (z ∷ vars) x = go (same_var z x) refl (value_renamed (n + 1) vars x)
  where
    go : (b : Bool) → same_var z x ≡ b → ((y : Var) × (value (renaming (n + 1) vars) x ≡ fvar y) × (y.sort ≡ x.sort)) → (y : Var) × (value (renaming n (z ∷ vars)) x ≡ fvar y) × (y.sort ≡ x.sort)
    go true e ih = (fresh_for n z, ap (λ b. form_or x (if b then Some (fvar (fresh_for n z)) else bound (renaming (n + 1) vars) x)) e, ap (λ y. y.sort) (same_var_is z x e))
    go false e ih = (ih.0, ap (λ b. form_or x (if b then Some (fvar (fresh_for n z)) else bound (renaming (n + 1) vars) x)) e ∙ ih.1, ih.2)

module _ (d : Declarations) where
  -- fresh variables of the same sorts fit
  pub renaming_fits : (n : ℕ) (vars : List Var) → BindingsFit d (renaming n vars)
  renaming_fits n vars = record {
    settled = λ x. subst (Settled d) (sym (value_renamed n vars x).1) tt;
    keeps_kinds = λ x i. subst (λ u. HasKind d (plain u) (kind d x.sort)) (sym (value_renamed n vars x).1) (subst (IsSort d) (sym (value_renamed n vars x).2) i, ap (kind d) (value_renamed n vars x).2);
  }

-- the fresh variable of a listed one
named : (m : ℕ) (vars : List Var) (x : Var) → listed vars x ≡ true → (n : ℕ) × (value (renaming m vars) x ≡ fvar (fresh_for n x)) × (m ≤ n) × (n < m + length vars)
named m [] x e = cc
named m (z ∷ vars) x e = go (same_var z x) refl (named (m + 1) vars x)
  where
    step : (b : Bool) → same_var z x ≡ b → value (renaming m (z ∷ vars)) x ≡ form_or x (if b then Some (fvar (fresh_for m z)) else bound (renaming (m + 1) vars) x)
    step b f = ap (λ b. form_or x (if b then Some (fvar (fresh_for m z)) else bound (renaming (m + 1) vars) x)) f

    go : (b : Bool) → same_var z x ≡ b → (listed vars x ≡ true → (n : ℕ) × (value (renaming (m + 1) vars) x ≡ fvar (fresh_for n x)) × (m + 1 ≤ n) × (n < m + 1 + length vars)) →
        (n : ℕ) × (value (renaming m (z ∷ vars)) x ≡ fvar (fresh_for n x)) × (m ≤ n) × (n < m + length (z ∷ vars))
    go true f ih = (m, step true f ∙ ap (λ y. fvar (fresh_for m y)) (same_var_is z x f), omega arith, omega arith)
    go false f ih =
        let h = ih (ap (λ b. b || listed vars x) (sym f) ∙ e) in
        let low = h.2 in
        let high = h.3 in
        (h.0, step false f ∙ h.1, omega arith, omega arith)

-- the number of a variable
abbrev number_of : FlatTerm → ℕ
number_of (fvar x) = x.name
number_of (fapp f joined ts) = 0

apart : (m : ℕ) (vars : List Var) (x y : Var) → listed vars x ≡ true → listed vars y ≡ true → value (renaming m vars) x ≡ value (renaming m vars) y → x ≡ y
apart m [] x y ex ey h = cc
apart m (z ∷ vars) x y ex ey h = go (same_var z x) (same_var z y) refl refl (apart (m + 1) vars x y)
  where
    step : (u : Var) (b : Bool) → same_var z u ≡ b → value (renaming m (z ∷ vars)) u ≡ form_or u (if b then Some (fvar (fresh_for m z)) else bound (renaming (m + 1) vars) u)
    step u b f = ap (λ b. form_or u (if b then Some (fvar (fresh_for m z)) else bound (renaming (m + 1) vars) u)) f

    rest : (u : Var) → same_var z u ≡ false → listed (z ∷ vars) u ≡ true → listed vars u ≡ true
    rest u f e = ap (λ b. b || listed vars u) (sym f) ∙ e

    clash : (u : Var) → listed vars u ≡ true → fvar (fresh_for m z) ≡ value (renaming (m + 1) vars) u → ⊥
    clash u e k =
        let n = named (m + 1) vars u e in
        let low = n.2 in
        let same = ap number_of (k ∙ n.1) in
        omega arith

    go : (a b : Bool) → same_var z x ≡ a → same_var z y ≡ b → (listed vars x ≡ true → listed vars y ≡ true → value (renaming (m + 1) vars) x ≡ value (renaming (m + 1) vars) y → x ≡ y) → x ≡ y
    go true true f g ih = sym (same_var_is z x f) ∙ same_var_is z y g
    go true false f g ih = absurd (clash y (rest y g ey) (sym (step x true f) ∙ h ∙ step y false g))
    go false true f g ih = absurd (clash x (rest x f ex) (sym (step y true g) ∙ sym h ∙ step x false f))
    go false false f g ih = ih (rest x f ex) (rest y g ey) (sym (step x false f) ∙ h ∙ step y false g)

-- listed variables go apart
pub listed_apart : (Among : Var → Type 0) (m : ℕ) (vars : List Var) → ((x : Var) → Among x → listed vars x ≡ true) → RenamesApart Among m (m + length vars) (value (renaming m vars))
listed_apart Among m vars among = record {
  fresh = λ x h. named m vars x (among x h);
  distinct = λ x y hx hy e. apart m vars x y (among x hx) (among y hy) e;
}

-- variables of the form go apart
pub renaming_apart : (m : ℕ) (t : FlatTerm) → RenamesApart (OccursInForm t) m (m + length (distinct_variables t)) (value (renaming m (distinct_variables t)))
renaming_apart m t = listed_apart (OccursInForm t) m (distinct_variables t) (λ x h. occurring_listed t [] x h)
