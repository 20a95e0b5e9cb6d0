-- Substitutions that bind just the variables of a list.
use Rattle.std.proofs.Common.{◌≡◌, ◌<◌, ◌+◌, ℕ, Bool, true, false, List, [], ◌∷◌, ◌++◌, length, take, get_or, Option, None, Some, refl, sym, ap, ◌∙◌, subst, inl, inr}
use mathlib.Core.Bool.{beq}
use Rattle.std.specs.Prelude.{◌&&◌, not, nat_eq, Contains, slice_get, if◌then◌else◌}
use Rattle.std.specs.Option.{option_map}
use Rattle.std.proofs.lemmas.Bool.{not-false}
use Rattle.std.proofs.lemmas.List.{take_more, map_more}
use Rattle.std.proofs.lemmas.Option.{get_or_from_slice_get}
use Rattle.fvn_base.proofs.Membership.{contains_here, contains_later, contains_cases, contains_none}
use Rattle.fvn_terms.specs.declared.plain.Var.{Var}
use Rattle.fvn_terms.specs.declared.declarations.Declarations.{Declarations}
use Rattle.fvn_terms.specs.Substitution.{same_truth, same_var}
use Rattle.fvn_forms.specs.Flat.{FlatTerm}
use Rattle.fvn_forms.specs.Canon.{inst}
use Rattle.fvn_flat.specs.Bindings.{Bindings, bound, form_or, value, changed, BindingsFit}
use Rattle.fvn_flat.proofs.Binding.{same_var_is, same_var_itself}
use Rattle.fvn_flat.proofs.Composing.{bound-changed}
use Rattle.fvn_cover.specs.declared.variant.Variant.{Variant}
use Rattle.fvn_narrow_children.specs.Values.{AreValuesUnder}
use Rattle.fvn_narrow_children.specs.inner.Binding.{bound_variables}

same_truths : (c d : Bool) → beq c d ≡ same_truth c d
same_truths true true = refl
same_truths true false = refl
same_truths false true = refl
same_truths false false = refl

grouped : (a b c d : Bool) → (a && (b && beq c d)) ≡ ((a && b) && same_truth c d)
grouped true true c d = same_truths c d
grouped true false c d = refl
grouped false b c d = refl

-- two variables that no field tells apart
pub untold : (x y : Var) → not (nat_eq x.name y.name && (nat_eq x.sort.0 y.sort.0 && beq x.fresh y.fresh)) ≡ false → x ≡ y
untold x y e = same_var_is x y (sym (grouped (nat_eq x.name y.name) (nat_eq x.sort.0 y.sort.0) x.fresh y.fresh) ∙ not-false (nat_eq x.name y.name && (nat_eq x.sort.0 y.sort.0 && beq x.fresh y.fresh)) e)

-- one more pair
pub bound_more : (s : Bindings) (vars : List Var) (i : ℕ) (p : Var × FlatTerm) (y : Var) → i < length s → i < length vars → slice_get s i ≡ Some p → p.0 ≡ get_or vars i y → bound_variables (take i s) ≡ take i vars → bound_variables (take (i + 1) s) ≡ take (i + 1) vars
bound_more s vars i p y a b at same h =
    map_more (λ (q : Var × FlatTerm). q.0) s i p a
    ∙ (λ k. h k ++ (get_or_from_slice_get s i p p at k).0 ∷ [])
    ∙ ap (λ z. take i vars ++ z ∷ []) same
    ∙ sym (take_more vars i y b)

-- a variable that is bound is one of them
bound_listed : (s : Bindings) (x : Var) (t : FlatTerm) → bound s x ≡ Some t → Contains (bound_variables s) x
bound_listed [] x t e = cc
bound_listed (p ∷ s) x t e = go (same_var p.0 x) refl (bound_listed s x t)
  where
    go : (b : Bool) → same_var p.0 x ≡ b → (bound s x ≡ Some t → Contains (bound_variables s) x) → Contains (p.0 ∷ bound_variables s) x
    go true f h = subst (Contains (p.0 ∷ bound_variables s)) (same_var_is p.0 x f) (contains_here p.0 (bound_variables s))
    go false f h = contains_later p.0 (bound_variables s) x (h (sym (ap (λ b. if b then Some p.1 else bound s x) f) ∙ e))

-- each of them is bound
listed_bound : (s : Bindings) (x : Var) → Contains (bound_variables s) x → bound s x ≡ None → ⊥
listed_bound [] x c e = contains_none x c
listed_bound (p ∷ s) x c e = go (same_var p.0 x) refl (listed_bound s x)
  where
    go : (b : Bool) → same_var p.0 x ≡ b → (Contains (bound_variables s) x → bound s x ≡ None → ⊥) → ⊥
    go true f h = let q : Some p.1 ≡ None = sym (ap (λ b. if b then Some p.1 else bound s x) f) ∙ e in cc
    go false f h = elim (contains_cases p.0 (bound_variables s) x c) as (λ _. ⊥) [
      | inl q ↦ let r : true ≡ false = sym (same_var_itself p.0) ∙ ap (same_var p.0) q ∙ f in cc
      | inr i ↦ h i (sym (ap (λ b. if b then Some p.1 else bound s x) f) ∙ e)
    ]

changed_form : (x : Var) (g : FlatTerm → FlatTerm) (o : Option FlatTerm) → (o ≡ None → ⊥) → form_or x (option_map g o) ≡ g (form_or x o)
changed_form x g None n = absurd (n refl)
changed_form x g (Some t) n = refl

changed_nothing : (g : FlatTerm → FlatTerm) (o : Option FlatTerm) → ((t : FlatTerm) → o ≡ Some t → ⊥) → option_map g o ≡ None
changed_nothing g None n = refl
changed_nothing g (Some t) n = absurd (n t refl)

-- the pairs alone, under a substitution, are the values
pub values_of_changed : (d : Declarations) (v : Variant) (s r : Bindings) → bound_variables v.subst ≡ v.vars → r ≡ changed (inst d (value s)) v.subst → BindingsFit d r → AreValuesUnder d v s r
values_of_changed d v s r just is fits = record {
  values = λ x c. ap (λ b. value b x) is ∙ ap (form_or x) (bound-changed (inst d (value s)) v.subst x)
      ∙ changed_form x (inst d (value s)) (bound v.subst x) (listed_bound v.subst x (subst (λ l. Contains l x) (sym just) c));
  others = λ x n. ap (λ b. bound b x) is ∙ bound-changed (inst d (value s)) v.subst x
      ∙ changed_nothing (inst d (value s)) (bound v.subst x) (λ t e. n (subst (λ l. Contains l x) just (bound_listed v.subst x t e)));
  fits = fits;
}
