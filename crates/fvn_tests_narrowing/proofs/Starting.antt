-- A form whose variables are not fresh may be expanded.
use Rattle.std.proofs.Common.{◌≡◌, Bool, true, false, ℕ, List, [], ◌∷◌, ◌++◌, refl, sym, ap, ◌∙◌, subst, inl, inr}
use Rattle.std.specs.Prelude.{◌⊎◌, ◌≢◌, ◌||◌, if◌then◌else◌, All, AllPairs, Any, Contains}
use Rattle.std.proofs.lemmas.List.Elements.{All-nil, All-weaker, All-contains_itself, Contains-append_cases}
use Rattle.fvn_base.proofs.Membership.{contains_none, contains_cases, contains_here, contains_later}
use Rattle.fvn_terms.specs.declared.plain.Var.{Var}
use Rattle.fvn_terms.specs.Signature.{IsSort}
use Rattle.fvn_terms.specs.Substitution.{Occurs, OccursAmong, same_var}
use Rattle.fvn_terms.proofs.Variables.{same_var_is}
use Rattle.fvn_forms.specs.Flat.{FlatTerm, FlatTerms, fvar, fapp, fnone, fmore, plain, plain_all}
use Rattle.fvn_flat.specs.Bindings.{Bindings, BindingsFit}
use Rattle.fvn_flat.specs.Drawn.{OccursInValues}
use Rattle.fvn_flat.specs.Fits.{AllFit}
use Rattle.fvn_flat.specs.Solving.{substitution}
use Rattle.fvn_flat.specs.Variables.{listed, with_variables, with_all_variables}
use Rattle.fvn_flat.proofs.Composing.{empty_fits}
use Rattle.fvn_flat.proofs.ListedVariables.{distinct_pairs, with_variables_distinct, occurring_listed}
use Rattle.fvn_flat.proofs.Occurrences.{occurs_in_app}
use Rattle.fvn_cover.specs.declared.variant.Variant.{Variant}
use Rattle.fvn_rewrite_laws.proofs.Choosing.{occurring_sort}
use Rattle.fvn_exploring.specs.Setting.{Setting}
use Rattle.fvn_exploring.specs.Expansions.{IsExpandable}
use Rattle.fvn_tests_narrowing.specs.Starts.{MayStart, IsAlone}

listed_only : (vars : List Var) (x : Var) → listed vars x ≡ true → Contains vars x
listed_only [] x e = cc
listed_only (z ∷ vars) x e = go (same_var z x) refl (listed_only vars x)
  where
    go : (b : Bool) → same_var z x ≡ b → (listed vars x ≡ true → Contains vars x) → Contains (z ∷ vars) x
    go true q rest = subst (λ y. Contains (y ∷ vars) x) (sym (same_var_is z x q)) (contains_here x vars)
    go false q rest = contains_later z vars x (rest (ap (λ b. b || listed vars x) (sym q) ∙ e))

-- what is listed of a form occurs in it
last_one : (vars : List Var) (y x : Var) (b : Bool) → Contains (if b then vars else vars ++ y ∷ []) x → Contains vars x ⊎ (x ≡ y)
last_one vars y x true c = inl c
last_one vars y x false c = go (Contains-append_cases vars (y ∷ []) x c)
  where
    only : (y ≡ x) ⊎ Contains [] x → x ≡ y
    only (inl e) = sym e
    only (inr k) = absurd (contains_none x k)

    go : Contains vars x ⊎ Contains (y ∷ []) x → Contains vars x ⊎ (x ≡ y)
    go (inl k) = inl k
    go (inr k) = inr (only (contains_cases y [] x k))

among : (t : FlatTerm) (ts : FlatTerms) (vars : List Var) (x : Var) → Contains vars x ⊎ Occurs x (plain t) → Contains vars x ⊎ OccursAmong x (plain_all (fmore t ts))
among t ts vars x (inl k) = inl k
among t ts vars x (inr o) = inr (inl o)

mutual
  listed_occurs : (t : FlatTerm) (vars : List Var) (x : Var) → Contains (with_variables t vars) x → Contains vars x ⊎ Occurs x (plain t)
  listed_occurs (fvar y) vars x c = last_one vars y x (listed vars y) c
  listed_occurs (fapp f joined ts) vars x c = elim (listed_among ts vars x c) [ inl k ↦ inl k | inr k ↦ inr ((occurs_in_app x f joined ts).1 k) ]

  listed_among : (ts : FlatTerms) (vars : List Var) (x : Var) → Contains (with_all_variables ts vars) x → Contains vars x ⊎ OccursAmong x (plain_all ts)
  listed_among fnone vars x c = inl c
  listed_among (fmore t ts) vars x c = elim (listed_among ts (with_variables t vars) x c) [ inl k ↦ among t ts vars x (listed_occurs t vars x k) | inr o ↦ inr (inr o) ]

in_form : (t : FlatTerm) (x : Var) → Contains (with_variables t []) x → Occurs x (plain t)
in_form t x c = elim (listed_occurs t [] x c) [ inl k ↦ absurd (contains_none x k) | inr o ↦ o ]

one_form : (t u : FlatTerm) → Contains (t ∷ []) u → t ≡ u
one_form t u c = elim (contains_cases t [] u c) [ inl e ↦ e | inr k ↦ absurd (contains_none u k) ]

module _ (g : Setting) (t : FlatTerm) (v : Variant) (m : MayStart g t) (a : IsAlone t v) where
  -- what occurs in a term, or in a value
  in_terms : (y : Var) → Any (λ w. Occurs y (plain w)) v.terms → Occurs y (plain t)
  in_terms y i =
      let j = subst (Any (λ w. Occurs y (plain w))) a.terms i in
      subst (λ w. Occurs y (plain w)) (sym (one_form t j.1 (j.0, j.2, j.3))) j.4

  in_values : (y : Var) → OccursInValues v.vars (substitution v.subst) y → Occurs y (plain t)
  in_values y o =
      let same : y ≡ o.0 = subst (λ (b : Bindings). Occurs y (substitution b o.0)) a.values o.2 in
      subst (λ z. Occurs z (plain t)) (sym same) (in_form t o.0 (subst (λ l. Contains l o.0) a.vars o.1))

  old_one : (y : Var) → Any (λ w. Occurs y (plain w)) v.terms ⊎ OccursInValues v.vars (substitution v.subst) y → y.fresh ≡ true → ⊥
  old_one y (inl i) fresh = let e : true ≡ false = sym fresh ∙ m.old y (in_terms y i) in cc
  old_one y (inr o) fresh = let e : true ≡ false = sym fresh ∙ m.old y (in_values y o) in cc

  sort_of : (x : Var) → Contains (with_variables t []) x → IsSort g.declarations x.sort
  sort_of x c = occurring_sort g.declarations x (plain t) m.fits.kinded.0 m.fits.kinded.1 (in_form t x c)

  pub may_be_expanded : (n : ℕ) → IsExpandable g n v
  may_be_expanded n = record {
    flat = record {
      terms = subst (AllFit g.declarations) (sym a.terms) (m.fits, tt);
      values = subst (BindingsFit g.declarations) (sym a.values) (empty_fits g.declarations);
      vars = subst (All (λ (x : Var). IsSort g.declarations x.sort)) (sym a.vars)
          (All-weaker (Contains (with_variables t [])) (λ (x : Var). IsSort g.declarations x.sort) sort_of (with_variables t []) (All-contains_itself (with_variables t [])));
    };
    holds = λ y i. (y, subst (λ l. Contains l y) (sym a.vars) (listed_only (with_variables t []) y (occurring_listed t [] y (in_terms y i))), subst (λ (b : Bindings). Occurs y (substitution b y)) (sym a.values) refl);
    once = subst (AllPairs (λ (x y : Var). x ≢ y)) (sym a.vars) (distinct_pairs (with_variables t []) (with_variables_distinct t [] tt));
    numbers = λ y i fresh. absurd (old_one y i fresh);
    fixed = subst (All (λ w. (y : Var) → Occurs y w → Contains v.vars y)) (sym m.none_fixed) (All-nil (λ w. (y : Var) → Occurs y w → Contains v.vars y));
  }
