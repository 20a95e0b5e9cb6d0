-- Substitutions of flat forms, one variable after another.
use Rattle.std.proofs.Common.{◌≡◌, ◌≢◌, ℕ, ◌+◌, ◌<◌, inl, inr, ◌⊎◌, Bool, true, false, List, [], ◌∷◌, ◌++◌, length, get_or, take, Some, None, refl, sym, ap, ◌∙◌, subst, map, arith}
use Rattle.std.specs.Prelude.{AllPairs, Contains, if◌then◌else◌}
use Rattle.std.proofs.lemmas.List.{take_more, map-append, length-take-le, get_or-take, get_or_default}
use Rattle.fvn_base.proofs.Membership.{contains_here, contains_later, contains_cases, contains_none}
use Rattle.fvn_terms.specs.declared.plain.Var.{Var}
use Rattle.fvn_terms.specs.declared.plain.Plain.{Plain}
use Rattle.fvn_terms.specs.declared.declarations.Declarations.{Declarations}
use Rattle.fvn_terms.specs.Signature.{kind, HasKind}
use Rattle.fvn_terms.specs.Sorts.{HasSort, IsWellSorted}
use Rattle.fvn_terms.specs.Substitution.{same_var}
use Rattle.fvn_terms.specs.Substitution.{value as plain_value}
use Rattle.fvn_terms.proofs.Equal.{BEqual-sym, BEqual-trans}
use Rattle.fvn_forms.specs.Flat.{FlatTerm, fvar, plain}
use Rattle.fvn_forms.specs.Canon.{canon}
use Rattle.fvn_forms.specs.Settled.{Settled}
use Rattle.fvn_forms.specs.Good.{IsGood}
use Rattle.fvn_forms.proofs.Eval.{canon_settled}
use Rattle.fvn_forms.proofs.ToCanon.{to_canon, canon_of_kind}
use Rattle.fvn_flat.specs.Bindings.{Bindings, BindingsFit, bound, form_or, value}
use Rattle.fvn_terms.proofs.Variables.{same_var_is, same_var_itself}
use Rattle.fvn_syntax.specs.Pieces.{Text}
use Rattle.fvn_answer.specs.Asked.{AreAsked, HaveSorts}

module _ (d : Declarations) (ps : List (Var × Plain)) where
  abbrev form_of : Var → FlatTerm
  form_of x = canon d (plain_value ps x)

  -- the variables with the forms of their values
  abbrev pub forms : List Var → Bindings
  forms xs = map (λ x. (x, form_of x)) xs

  -- a variable with a form
  abbrev pub with_form : Var → FlatTerm → Var × FlatTerm
  with_form x t = (x, t)

  -- one more variable
  pub forms-more : (xs : List Var) (i : ℕ) (e : Var) → i < length xs → forms (take i xs) ++ with_form (get_or xs i e) (form_of (get_or xs i e)) ∷ [] ≡ forms (take (i + 1) xs)
  forms-more xs i e l =
      sym (map-append (λ y. with_form y (form_of y)) (take i xs) (get_or xs i e ∷ []))
      ∙ ap forms (sym (take_more xs i e l))

  -- What they give.

  bound-listed : (xs : List Var) (x : Var) → Contains xs x → bound (forms xs) x ≡ Some (form_of x)
  bound-listed [] x h = absurd (contains_none x h)
  bound-listed (y ∷ xs) x h = go (same_var y x) refl (bound-listed xs x)
    where
      go : (b : Bool) → same_var y x ≡ b → (Contains xs x → bound (forms xs) x ≡ Some (form_of x)) → (if b then Some (form_of y) else bound (forms xs) x) ≡ Some (form_of x)
      go true e ih = ap (λ z. Some (form_of z)) (same_var_is y x e)
      go false e ih = elim (contains_cases y xs x h) [
        | inl q ↦ let n : true ≡ false = sym (same_var_itself y) ∙ ap (same_var y) q ∙ e in cc
        | inr k ↦ ih k
      ]

  bound-none : (xs : List Var) (x : Var) → (Contains xs x → ⊥) → bound (forms xs) x ≡ None
  bound-none [] x n = refl
  bound-none (y ∷ xs) x n = go (same_var y x) refl (bound-none xs x)
    where
      go : (b : Bool) → same_var y x ≡ b → ((Contains xs x → ⊥) → bound (forms xs) x ≡ None) → (if b then Some (form_of y) else bound (forms xs) x) ≡ None
      go true e ih = absurd (n (subst (Contains (y ∷ xs)) (same_var_is y x e) (contains_here y xs)))
      go false e ih = ih (λ k. n (contains_later y xs x k))

  -- the next variable is not bound yet
  pub next-free : (xs : List Var) (i : ℕ) (e : Var) → AllPairs (λ y z. y ≢ z) xs → i < length xs → bound (forms (take i xs)) (get_or xs i e) ≡ None
  next-free xs i e distinct l = bound-none (take i xs) (get_or xs i e) (λ h.
      let x = get_or xs i e in
      let at = h.0 in
      let low : at < length (take i xs) = h.1 in
      let count : length (take i xs) ≡ i = length-take-le i xs (omega (arith, l)) in
      let here : get_or (take i xs) at x ≡ x = h.2 in
      distinct at i x (omega (arith, low, count)) l (sym (get_or-take i xs at x (omega (arith, low, count))) ∙ here ∙ get_or_default xs i e x l))

  -- each variable of a problem has a value of its sort
  module _ (good : IsGood d) (sorted : IsWellSorted d (plain_value ps)) (texts : List Text) (vars : List Var) (asked : AreAsked d texts vars) where
    pub value-kinded : (x : Var) → Contains vars x → HasKind d (plain_value ps x) (kind d x.sort)
    value-kinded x h = sorted.0 x (asked.named x h).sort

    value-listed : (x : Var) → Contains vars x → value (forms vars) x ≡ form_of x
    value-listed x h = ap (form_or x) (bound-listed vars x h)

    pub forms-sorts : HaveSorts d vars (forms vars)
    forms-sorts x h =
        let has = sorted.1 x in
        let same = to_canon d good.fits (plain_value ps x) (kind d x.sort) (value-kinded x h) in
        subst (λ t. HasSort d (plain t) x.sort) (sym (value-listed x h))
        (record { form = has.form; equal = BEqual-trans d (BEqual-sym d same) has.equal; gets = has.gets })

    value-cases : (xs : List Var) (x : Var) → (value (forms xs) x ≡ fvar x) ⊎ Contains xs x
    value-cases [] x = inl refl
    value-cases (y ∷ xs) x = go (same_var y x) refl (value-cases xs x)
      where
        go : (b : Bool) → same_var y x ≡ b → (value (forms xs) x ≡ fvar x) ⊎ Contains xs x → (form_or x (if b then Some (form_of y) else bound (forms xs) x) ≡ fvar x) ⊎ Contains (y ∷ xs) x
        go true e ih = inr (subst (Contains (y ∷ xs)) (same_var_is y x e) (contains_here y xs))
        go false e ih = elim ih [ inl q ↦ inl q | inr k ↦ inr (contains_later y xs x k) ]

    pub forms-fit : BindingsFit d (forms vars)
    forms-fit = record {
      settled = λ x. elim (value-cases vars x) [
        | inl e ↦ subst (Settled d) (sym e) tt
        | inr h ↦ subst (Settled d) (sym (value-listed x h)) (canon_settled d (plain_value ps x))
      ];
      keeps_kinds = λ x is. elim (value-cases vars x) [
        | inl e ↦ subst (λ t. HasKind d (plain t) (kind d x.sort)) (sym e) (is, refl)
        | inr h ↦ subst (λ t. HasKind d (plain t) (kind d x.sort)) (sym (value-listed x h)) (canon_of_kind d good.fits (plain_value ps x) (kind d x.sort) (value-kinded x h))
      ];
    }
