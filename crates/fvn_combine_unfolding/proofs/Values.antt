-- Substitutions that give variables what they unfold to.
use Rattle.std.proofs.Common.{◌≡◌, Bool, true, false, List, [], ◌∷◌, ◌++◌, Option, Some, None, refl, sym, ap, ◌∙◌, subst, inl, inr, arith, All}
use Rattle.std.specs.Prelude.{◌↔◌, if◌then◌else◌, is_some, Contains}
use Rattle.std.proofs.lemmas.List.Elements.{Contains-append_left, Contains-push, Contains-push_cases}
use Rattle.fvn_terms.specs.declared.plain.Var.{Var}
use Rattle.fvn_terms.specs.declared.declarations.Declarations.{Declarations}
use Rattle.fvn_terms.specs.Substitution.{same_var}
use Rattle.fvn_terms.specs.Signature.{IsSort}
use Rattle.fvn_forms.specs.Flat.{FlatTerm}
use Rattle.fvn_forms.specs.Good.{IsGood}
use Rattle.fvn_flat.specs.Bindings.{Bindings, bound, form_or, value, BindingsFit}
use Rattle.fvn_flat.proofs.Binding.{same_var_is, or_else, bound-append, bound_first}
use Rattle.fvn_flat.proofs.Composing.{empty_fits, bind_fits}
use Rattle.fvn_combine_choices.specs.Plans.{unfolds_to}
use Rattle.fvn_combine_unfolding.specs.Sizes.{IsFitting}
use Rattle.fvn_combine_unfolding.specs.inner.Replaced.{IsWithValue}
use Rattle.fvn_combine_unfolding.proofs.Steps.{unfolding_fits}

-- just these variables are bound, to what they unfold to
pub record IsUnfoldedFor (d : Declarations) (bindings : Bindings) (vars : List Var) (s : Bindings) : Type 0 where
  pub values : (x : Var) → Contains vars x → bound s x ≡ Some (unfolds_to d bindings x)
  pub alone : (x : Var) (t : FlatTerm) → bound s x ≡ Some t → Contains vars x
  pub fits : BindingsFit d s

module _ (d : Declarations) (bindings : Bindings) where
  pub none_unfolded : IsUnfoldedFor d bindings [] []
  none_unfolded = record {
    values = λ x h. let l = h.1 in absurd (omega arith);
    alone = λ x t e. let k : None ≡ Some t = e in cc;
    fits = empty_fits d;
  }

  pub one_more : IsGood d → All (IsFitting d) bindings → (vars : List Var) (s r : Bindings) (x : Var) → IsSort d x.sort → IsUnfoldedFor d bindings vars s → IsWithValue d bindings s x r → IsUnfoldedFor d bindings (vars ++ x ∷ []) r
  one_more good fit vars s r x i h (inl ((t, e), same)) = subst (IsUnfoldedFor d bindings (vars ++ x ∷ [])) (sym same) record {
    values = λ y m. elim (Contains-push_cases vars x y m) [
      | inl before ↦ h.values y before
      | inr is ↦ subst (λ z. bound s z ≡ Some (unfolds_to d bindings z)) is (h.values x (h.alone x t e))
    ];
    alone = λ y u f. Contains-append_left vars (x ∷ []) y (h.alone y u f);
    fits = h.fits;
  }
  one_more good fit vars s r x i h (inr (free, same)) = subst (IsUnfoldedFor d bindings (vars ++ x ∷ [])) (sym same) record {
    values = λ y m. elim (Contains-push_cases vars x y m) [
      | inl before ↦ bound-append s last y ∙ ap (λ o. or_else o (bound last y)) (h.values y before)
      | inr is ↦ subst (λ z. bound (s ++ last) z ≡ Some (unfolds_to d bindings z)) is (bound-append s last x ∙ ap (λ o. or_else o (bound last x)) free ∙ bound_first (x, unfolds_to d bindings x) [])
    ];
    alone = λ y u f. of y u (bound s y) refl (sym (bound-append s last y) ∙ f);
    fits =
        let one = unfolding_fits d good bindings fit x i in
        bind_fits d s x (unfolds_to d bindings x) h.fits one.flat (λ j. one.kinded);
  }
    where
      last : Bindings
      last = (x, unfolds_to d bindings x) ∷ []

      itself : (y : Var) (u : FlatTerm) (b : Bool) → same_var x y ≡ b → (if b then Some (unfolds_to d bindings x) else None) ≡ Some u → x ≡ y
      itself y u true e f = same_var_is x y e
      itself y u false e f = let k : None ≡ Some u = f in cc

      of : (y : Var) (u : FlatTerm) (o : Option FlatTerm) → bound s y ≡ o → or_else (bound s y) (bound last y) ≡ Some u → Contains (vars ++ x ∷ []) y
      of y u (Some v) e f = Contains-append_left vars (x ∷ []) y (h.alone y v e)
      of y u None e f =
          let k : bound last y ≡ Some u = sym (ap (λ o. or_else o (bound last y)) e) ∙ f in
          subst (Contains (vars ++ x ∷ [])) (itself y u (same_var x y) refl k) (Contains-push vars x)

  -- what is promised of it
  pub value_is : (vars : List Var) (s : Bindings) → IsUnfoldedFor d bindings vars s → (x : Var) → Contains vars x → value s x ≡ unfolds_to d bindings x
  value_is vars s h x m = ap (form_or x) (h.values x m)

  pub binds_these : (vars : List Var) (s : Bindings) → IsUnfoldedFor d bindings vars s → (x : Var) → Contains vars x ↔ ((t : FlatTerm) × (bound s x ≡ Some t))
  binds_these vars s h x = (λ m. (unfolds_to d bindings x, h.values x m), λ k. h.alone x k.0 k.1)

-- an option that is some, and one that is none
pub some_of : (o : Option FlatTerm) → is_some o ≡ true → (t : FlatTerm) × (o ≡ Some t)
some_of None e = cc
some_of (Some t) e = (t, refl)

pub none_of : (o : Option FlatTerm) → is_some o ≡ false → o ≡ None
none_of None e = refl
none_of (Some t) e = cc

-- what stands for a variable past the end
abbrev pub any_variable : Var
any_variable = record { name = 0; sort = record { 0 = 0 }; fresh = false }
