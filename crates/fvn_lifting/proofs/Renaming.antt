-- Instances of renamed forms are instances of the forms.
use Rattle.std.proofs.Common.{◌≡◌, ◌⊎◌, ◌∙◌, zero, suc, true, List, [], ◌∷◌, ◌++◌, map, refl, ap, sym, subst, inl, inr, arith}
use Rattle.std.specs.List.{AllZip, Any, Contains}
use Rattle.std.proofs.lemmas.List.Elements.{Contains-append_left, Contains-append_right, Contains-append_cases}
use Rattle.fvn_base.specs.Decided.{Decided}
use Rattle.fvn_base.proofs.Decided.{decided_by, some_or_none}
use Rattle.fvn_base.proofs.Membership.{contains_here, contains_later, contains_cases, contains_none}
use Rattle.fvn_terms.specs.declared.plain.Var.{Var}
use Rattle.fvn_terms.specs.declared.declarations.Declarations.{Declarations}
use Rattle.fvn_terms.specs.Term.{Term, var}
use Rattle.fvn_terms.specs.Substitution.{Substitution, apply, Occurs, same_var}
use Rattle.fvn_terms.specs.Equality.{BEqual}
use Rattle.fvn_terms.specs.Sorts.{IsWellSorted}
use Rattle.fvn_terms.proofs.Substitutions.{apply-apply, apply-agree}
use Rattle.fvn_terms.proofs.Equal.{BEqual-apply, BEqual-sym}
use Rattle.fvn_forms.specs.Flat.{FlatTerm, plain}
use Rattle.fvn_forms.specs.Good.{IsGood}
use Rattle.fvn_flat.specs.Problems.{variables}
use Rattle.fvn_flat.specs.Drawn.{renamed, OccursInValues}
use Rattle.fvn_flat.specs.Fits.{AllFit}
use Rattle.fvn_flat.specs.Successors.{Narrowed, OccursIn, IsRenamed, renamed_form}
use Rattle.fvn_flat.proofs.Binding.{same_var_is, same_var_itself}
use Rattle.fvn_flat.proofs.VariableLists.{variables_list, variables_occur}
use Rattle.fvn_lifting.specs.Lifted.{HaveOneInstance}
use Rattle.fvn_lifting.proofs.Chosen.{StandsFor, stands_at, sorted_each, variable_stands}
use Rattle.fvn_lifting.proofs.Renamed.{renamed_form_equal, renamed_form_fits}

-- the variables of forms
abbrev of_forms : List FlatTerm → List Var
of_forms [] = []
of_forms (t ∷ ts) = variables (plain t) ++ of_forms ts

-- those of the values of some variables
abbrev of_values : Substitution → List Var → List Var
of_values values [] = []
of_values values (x ∷ xs) = variables (values x) ++ of_values values xs

listed_form : (ts : List FlatTerm) (x : Var) → Any (λ t. Occurs x (plain t)) ts → Contains (of_forms ts) x
listed_form [] x (k, t, l, e, o) = absurd (omega (arith, l))
listed_form (t ∷ ts) x (zero, u, l, e, o) = Contains-append_left (variables (plain t)) (of_forms ts) x (variables_list x (plain t) (subst (λ a. Occurs x (plain a)) (sym e) o))
listed_form (t ∷ ts) x (suc k, u, l, e, o) = Contains-append_right (variables (plain t)) (of_forms ts) x (listed_form ts x (k, u, omega (arith, l), e, o))

form_listed : (ts : List FlatTerm) (x : Var) → Contains (of_forms ts) x → Any (λ t. Occurs x (plain t)) ts
form_listed [] x h = absurd (contains_none x h)
form_listed (t ∷ ts) x h = go (Contains-append_cases (variables (plain t)) (of_forms ts) x h) (form_listed ts x) where
  later : Any (λ t. Occurs x (plain t)) ts → Any (λ t. Occurs x (plain t)) (t ∷ ts)
  later (k, u, l, e, o) = (suc k, u, omega (arith, l), e, o)

  go : Contains (variables (plain t)) x ⊎ Contains (of_forms ts) x → (Contains (of_forms ts) x → Any (λ t. Occurs x (plain t)) ts) → Any (λ t. Occurs x (plain t)) (t ∷ ts)
  go (inl c) rest = (zero, t, omega arith, refl, variables_occur x (plain t) c)
  go (inr c) rest = later (rest c)

listed_value : (values : Substitution) (xs : List Var) (y x : Var) → Contains xs y → Occurs x (values y) → Contains (of_values values xs) x
listed_value values [] y x h o = absurd (contains_none y h)
listed_value values (z ∷ xs) y x h o = go (contains_cases z xs y h) (λ c. listed_value values xs y x c o) where
  go : (z ≡ y) ⊎ Contains xs y → (Contains xs y → Contains (of_values values xs) x) → Contains (of_values values (z ∷ xs)) x
  go (inl e) rest = Contains-append_left (variables (values z)) (of_values values xs) x (variables_list x (values z) (subst (λ a. Occurs x (values a)) (sym e) o))
  go (inr c) rest = Contains-append_right (variables (values z)) (of_values values xs) x (rest c)

value_listed : (values : Substitution) (xs : List Var) (x : Var) → Contains (of_values values xs) x → OccursInValues xs values x
value_listed values [] x h = absurd (contains_none x h)
value_listed values (z ∷ xs) x h = go (Contains-append_cases (variables (values z)) (of_values values xs) x h) (value_listed values xs x) where
  later : OccursInValues xs values x → OccursInValues (z ∷ xs) values x
  later (y, c, o) = (y, contains_later z xs y c, o)

  go : Contains (variables (values z)) x ⊎ Contains (of_values values xs) x → (Contains (of_values values xs) x → OccursInValues xs values x) → OccursInValues (z ∷ xs) values x
  go (inl c) rest = (z, contains_here z xs, variables_occur x (values z) c)
  go (inr c) rest = later (rest c)

module _ (d : Declarations) (vars : List Var) (v : Narrowed) where
  -- all variables that occur
  abbrev pub occurring : List Var
  occurring = of_forms v.terms ++ of_values v.values vars

  occurring_if : (x : Var) → OccursIn d vars v x → Contains occurring x
  occurring_if x (inl a) = Contains-append_left (of_forms v.terms) (of_values v.values vars) x (listed_form v.terms x a)
  occurring_if x (inr b) = Contains-append_right (of_forms v.terms) (of_values v.values vars) x (listed_value v.values vars b.0 x b.1 b.2)

  occurring_only : (x : Var) → Contains occurring x → OccursIn d vars v x
  occurring_only x h = go (Contains-append_cases (of_forms v.terms) (of_values v.values vars) x h) where
    go : Contains (of_forms v.terms) x ⊎ Contains (of_values v.values vars) x → OccursIn d vars v x
    go (inl c) = inl (form_listed v.terms x c)
    go (inr c) = inr (value_listed v.values vars x c)

  is_or_not : (y x : Var) → Decided (x ≡ y)
  is_or_not y x = decided_by (same_var x y) (same_var_is x y) (λ e. subst (λ z. same_var x z ≡ true) e (same_var_itself x))

  occurs_or_never : (x : Var) → Decided (OccursIn d vars v x)
  occurs_or_never x = go (some_or_none (λ z. z ≡ x) (is_or_not x) occurring) where
    go : ((z : Var) × (Contains occurring z × (z ≡ x))) ⊎ ((z : Var) → Contains occurring z → z ≡ x → ⊥) → Decided (OccursIn d vars v x)
    go (inl w) = inl (occurring_only x (subst (Contains occurring) w.1.1 w.1.0))
    go (inr n) = inr (λ o. n x (occurring_if x o) refl)

module _ (d : Declarations) (good : IsGood d) (vars : List Var) (v w : Narrowed) (fits : AllFit d v.terms) (is : IsRenamed d vars v w) where
  abbrev Among : Var → Type 0
  Among = OccursIn d vars v

  -- what was renamed to this variable
  abbrev pub HasOrigin : Var → Type 0
  HasOrigin y = (x : Var) × (Contains (occurring d vars v) x × (is.by x ≡ y))

  pub origin_or_none : (y : Var) → HasOrigin y ⊎ ((x : Var) → Contains (occurring d vars v) x → is.by x ≡ y → ⊥)
  origin_or_none y = some_or_none (λ x. is.by x ≡ y) (λ x. is_or_not d vars v y (is.by x)) (occurring d vars v)

  -- the renamed forms fit
  pub renamed_fit : AllFit d w.terms
  renamed_fit = subst (AllFit d) (sym is.terms) (each v.terms fits (λ x a. inl a)) where
    each : (l : List FlatTerm) → AllFit d l → ((x : Var) → Any (λ t. Occurs x (plain t)) l → Among x) → AllFit d (map (renamed_form d is.by) l)
    each [] h within = tt
    each (t ∷ l) h within = (
      renamed_form_fits d Among (occurs_or_never d vars v) is.by is.renames good t (h.0).kinded.0 (h.0).kinded.1 (λ x o. within x (zero, t, omega arith, refl, o)),
      each l h.1 (λ x a. within x (suc a.0, a.1, omega (arith, a.2), a.3, a.4)),
    )

  module _ (s : Substitution) (sorted : IsWellSorted d s) where
    -- the value of the variable that was renamed to this one
    abbrev pub taken : (y : Var) → HasOrigin y ⊎ ((x : Var) → Contains (occurring d vars v) x → is.by x ≡ y → ⊥) → Term
    taken y (inl o) = s o.0
    taken y (inr n) = var y

    abbrev pub back : Substitution
    back y = taken y (origin_or_none y)

    back_sorted : IsWellSorted d back
    back_sorted = sorted_each d back (λ y. go y (origin_or_none y)) where
      go : (y : Var) (o : HasOrigin y ⊎ ((x : Var) → Contains (occurring d vars v) x → is.by x ≡ y → ⊥)) → StandsFor d y.sort (taken y o)
      go y (inl o) =
          let same_sort : (o.0).sort ≡ y.sort = sym (is.renames.sorts o.0 (occurring_only d vars v o.0 o.1.0)) ∙ ap (λ (z : Var). z.sort) o.1.1 in
          subst (λ q. StandsFor d q (s o.0)) same_sort (stands_at d s sorted o.0)
      go y (inr n) = variable_stands d y.sort y refl

    back_at : (x : Var) → Among x → back (is.by x) ≡ s x
    back_at x a = go (origin_or_none (is.by x)) where
      go : (o : HasOrigin (is.by x) ⊎ ((z : Var) → Contains (occurring d vars v) z → is.by z ≡ is.by x → ⊥)) → taken (is.by x) o ≡ s x
      go (inl o) = ap s (is.renames.one_to_one o.0 x (occurring_only d vars v o.0 o.1.0) a o.1.1)
      go (inr n) = absurd (n x (occurring_if d vars v x a) refl)

    back_renamed : (t : Term) → ((x : Var) → Occurs x t → Among x) → apply back (renamed is.by t) ≡ apply s t
    back_renamed t within = apply-apply (λ x. var (is.by x)) back t ∙ apply-agree (λ x. back (is.by x)) s t (λ x o. back_at x (within x o))

    form_instance : (t : FlatTerm) → AllFit d (t ∷ []) → ((x : Var) → Occurs x (plain t) → Among x) → BEqual d (apply s (plain t)) (apply back (plain (renamed_form d is.by t)))
    form_instance t h within =
        subst (λ a. BEqual d a (apply back (plain (renamed_form d is.by t)))) (back_renamed (plain t) within)
        (BEqual-apply d back back_sorted.0 (renamed_form_equal d Among (occurs_or_never d vars v) is.by is.renames good t (h.0).kinded.0 (h.0).kinded.1 within))

    each_instance : (l : List FlatTerm) → AllFit d l → ((x : Var) → Any (λ t. Occurs x (plain t)) l → Among x) → AllZip (BEqual d) (map (apply s) (map plain l)) (map (apply back) (map plain (map (renamed_form d is.by) l)))
    each_instance [] h within = tt
    each_instance (t ∷ l) h within = (
      form_instance t (h.0, tt) (λ x o. within x (zero, t, omega arith, refl, o)),
      each_instance l h.1 (λ x a. within x (suc a.0, a.1, omega (arith, a.2), a.3, a.4)),
    )

    origin_of : (y : Var) (o : HasOrigin y ⊎ ((x : Var) → Contains (occurring d vars v) x → is.by x ≡ y → ⊥)) → ((x : Var) × (Among x × (taken y o ≡ s x))) ⊎ (taken y o ≡ var y)
    origin_of y (inl o) = inl (o.0, (occurring_only d vars v o.0 o.1.0, refl))
    origin_of y (inr n) = inr refl

    pub one_instance : HaveOneInstance d vars v w s back
    one_instance = record {
      well_sorted = back_sorted;
      terms = subst (λ l. AllZip (BEqual d) (map (apply s) (map plain v.terms)) (map (apply back) (map plain l))) (sym is.terms) (each_instance v.terms fits (λ x a. inl a));
      values = λ x c.
          subst (λ a. BEqual d a (apply back (w.values x))) (back_renamed (v.values x) (λ y o. inr (x, c, o)))
          (BEqual-sym d (BEqual-apply d back back_sorted.0 (is.values x c)));
      origin = λ y. origin_of y (origin_or_none y);
    }
