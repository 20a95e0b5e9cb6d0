-- New names for variables, and the way back.
use Rattle.std.proofs.Common.{◌≡◌, ℕ, ◌+◌, ◌<◌, ◌≤◌, Bool, true, false, List, [], ◌∷◌, length, get_or, take, refl, sym, ap, ◌∙◌, subst, inl, inr, arith, Some}
use Rattle.std.specs.Prelude.{if◌then◌else◌, find, unwrap_or, cond, Contains}
use Rattle.std.proofs.lemmas.List.{get_or-map, length-map, take_all}
use Rattle.fvn_base.proofs.Membership.{contains_cases, contains_none, find_or, contains_map}
use Rattle.fvn_terms.specs.declared.plain.Var.{Var}
use Rattle.fvn_terms.specs.Substitution.{same_var, Occurs}
use Rattle.fvn_forms.specs.Flat.{FlatTerm, fvar, fapp, fpack, plain}
use Rattle.fvn_flat.specs.Bindings.{Bindings, bound, form_or, value}
use Rattle.fvn_flat.specs.Drawn.{Renaming, OccursInValues}
use Rattle.fvn_flat.specs.Solving.{substitution}
use Rattle.fvn_flat.specs.Variables.{listed, with_variables, with_all_variables, fresh_for, renaming}
use Rattle.fvn_flat.proofs.Binding.{same_var_is, same_var_itself}
use Rattle.fvn_flat.proofs.ListedVariables.{Distinct, with_all_distinct, with_all-step, occurring_listed, still_all_listed}
use Rattle.fvn_rewrite_laws.proofs.Listing.{var_listed}
use Rattle.fvn_cover.specs.declared.variant.Variant.{Variant}
use Rattle.fvn_cover.specs.Covering.{values_of}
use Rattle.fvn_vunify.specs.inner.Names.{variables_of_values, AreFreshNames}

-- one more value's variables
pub values_step : (v : Variant) (i : ℕ) (e : Var) (now next : List Var) → i < length v.vars →
    next ≡ with_variables (value v.subst (get_or v.vars i e)) now → now ≡ with_all_variables (fpack (take i (values_of v))) [] → next ≡ with_all_variables (fpack (take (i + 1) (values_of v))) []
values_step v i e now next l is h =
    let t = value v.subst (get_or v.vars i e) in
    let n : i < length (values_of v) = omega (arith, l, length-map v.vars (value v.subst)) in
    is ∙ ap (with_variables t) h ∙ sym (with_all-step (values_of v) i t [] n (sym (get_or-map (value v.subst) v.vars i e t l)))

pub values_whole : (v : Variant) (i : ℕ) (now : List Var) → length v.vars ≤ i → now ≡ with_all_variables (fpack (take i (values_of v))) [] → now ≡ variables_of_values v
values_whole v i now l h =
    let n : length (values_of v) ≤ i = omega (arith, l, length-map v.vars (value v.subst)) in
    h ∙ ap (λ ts. with_all_variables (fpack ts) []) (take_all i (values_of v) n)

-- no variable is listed twice
pub values_distinct : (v : Variant) → Distinct (variables_of_values v)
values_distinct v = with_all_distinct (fpack (values_of v)) [] tt

pub each_listed : (l : List FlatTerm) (vars : List Var) (t : FlatTerm) → Contains l t → (y : Var) → Occurs y (plain t) → listed (with_all_variables (fpack l) vars) y ≡ true
each_listed [] vars t m y o = absurd (contains_none t m)
each_listed (u ∷ l) vars t m y o = elim (contains_cases u l t m) as (λ _. listed (with_all_variables (fpack (u ∷ l)) vars) y ≡ true) [
  | inl e ↦ still_all_listed (fpack l) (with_variables u vars) y (occurring_listed u vars y (subst (λ (w : FlatTerm). Occurs y (plain w)) (sym e) o))
  | inr i ↦ each_listed l (with_variables u vars) t i y o
]

-- those of each value are listed
pub values_held : (v : Variant) (y : Var) → OccursInValues v.vars (substitution v.subst) y → Contains (variables_of_values v) y
values_held v y o =
    var_listed (variables_of_values v) y
    (each_listed (values_of v) [] (value v.subst o.0) (contains_map (value v.subst) v.vars o.0 o.1) y o.2)

-- the new name of a variable
pub new_name : ℕ → List Var → Renaming
new_name n [] x = x
new_name n (y ∷ vars) x = if same_var y x then fresh_for n y else new_name (n + 1) vars x

pub value_is_named : (n : ℕ) (vars : List Var) (x : Var) → value (renaming n vars) x ≡ fvar (new_name n vars x)
unfolding new_name
value_is_named n [] x = refl
value_is_named n (y ∷ vars) x = go (same_var y x) (value_is_named (n + 1) vars x) where
  go : (b : Bool) → value (renaming (n + 1) vars) x ≡ fvar (new_name (n + 1) vars x) →
      form_or x (if b then Some (fvar (fresh_for n y)) else bound (renaming (n + 1) vars) x) ≡ fvar (if b then fresh_for n y else new_name (n + 1) vars x)
  go true later = refl
  go false later = later

pub new_name_sort : (n : ℕ) (vars : List Var) (x : Var) → (new_name n vars x).sort ≡ x.sort
unfolding new_name
new_name_sort n [] x = refl
new_name_sort n (y ∷ vars) x = go (same_var y x) refl (new_name_sort (n + 1) vars x) where
  go : (b : Bool) → same_var y x ≡ b → (new_name (n + 1) vars x).sort ≡ x.sort → (if b then fresh_for n y else new_name (n + 1) vars x).sort ≡ x.sort
  go true e later = ap (λ (z : Var). z.sort) (same_var_is y x e)
  go false e later = later

-- the variable that a form is, or another
abbrev variable_in : Var → FlatTerm → Var
variable_in x (fvar y) = y
variable_in x (fapp f joined ts) = x

module _ (v : Variant) (names : Bindings) (next : ℕ) (fresh : AreFreshNames v names next) where
  pub name_of : Renaming
  name_of = new_name 0 fresh.vars

  pub named : (x : Var) → value names x ≡ fvar (name_of x)
  unfolding name_of
  named x = ap (λ s. value s x) fresh.named ∙ value_is_named 0 fresh.vars x

  pub name_sort : (x : Var) → (name_of x).sort ≡ x.sort
  unfolding name_of
  name_sort x = new_name_sort 0 fresh.vars x

  pub name_one_to_one : (x y : Var) → Contains fresh.vars x → Contains fresh.vars y → name_of x ≡ name_of y → x ≡ y
  name_one_to_one x y m n e = fresh.apart.distinct x y m n (named x ∙ ap fvar e ∙ sym (named y))

  pub name_is_fresh : (x : Var) → Contains fresh.vars x → ((name_of x).fresh ≡ true) × ((name_of x).name < next)
  name_is_fresh x m =
      let w = fresh.apart.fresh x m in
      let is : fresh_for w.0 x ≡ name_of x = ap (variable_in x) (sym w.1 ∙ named x) in
      (subst (λ (z : Var). z.fresh ≡ true) is refl, subst (λ (z : Var). z.name < next) is w.3)

  -- the variable that has a new name, or else the variable itself
  pub back_from : Renaming
  back_from z = unwrap_or (find (λ y. same_var (name_of y) z) fresh.vars) z

  pub back_name : (y : Var) → Contains fresh.vars y → back_from (name_of y) ≡ y
  unfolding back_from
  back_name y m =
      let w = find_or (λ x. same_var (name_of x) (name_of y)) fresh.vars y (name_of y) m (same_var_itself (name_of y)) in
      name_one_to_one (back_from (name_of y)) y w.0 m (same_var_is (name_of (back_from (name_of y))) (name_of y) w.1)

  found_sort : (l : List Var) (z : Var) → (unwrap_or (find (λ y. same_var (name_of y) z) l) z).sort ≡ z.sort
  found_sort [] z = refl
  found_sort (y ∷ l) z = go (same_var (name_of y) z) refl (found_sort l z) where
    go : (b : Bool) → same_var (name_of y) z ≡ b → (unwrap_or (find (λ x. same_var (name_of x) z) l) z).sort ≡ z.sort →
        (unwrap_or (cond b (Some y) (find (λ x. same_var (name_of x) z) l)) z).sort ≡ z.sort
    go true e later = sym (name_sort y) ∙ ap (λ (x : Var). x.sort) (same_var_is (name_of y) z e)
    go false e later = later

  pub back_sort : (z : Var) → (back_from z).sort ≡ z.sort
  unfolding back_from
  back_sort z = found_sort fresh.vars z
