-- Substitutions that give each of some variables a member of a searched set are searched.
use Rattle.std.proofs.Common.{◌≡◌, ◌⊎◌, Bool, true, false, List, [], ◌∷◌, refl, sym, ap, ◌∙◌, subst, inl, inr}
use Rattle.std.specs.List.{Contains}
use Rattle.std.specs.Prelude.{if◌then◌else◌}
use Rattle.std.proofs.lemmas.Bool.{true≢false}
use Rattle.fvn_base.specs.Decided.{Decided}
use Rattle.fvn_base.proofs.Membership.{contains_here, contains_later, contains_cases, contains_none}
use Rattle.fvn_terms.specs.declared.plain.Var.{Var}
use Rattle.fvn_terms.specs.Term.{Term}
use Rattle.fvn_terms.specs.Substitution.{Substitution, same_var}
use Rattle.fvn_flat.proofs.Binding.{same_var_is, same_var_itself}
use Rattle.fvn_rewrite_normal_forms.proofs.Searching.{Found, IsSearched}

-- the substitution with another value for y
abbrev with_value : Substitution → Var → Term → Substitution
with_value s y t x = if same_var x y then t else s x

with_value-there : (s : Substitution) (y x : Var) (t : Term) → same_var x y ≡ true → with_value s y t x ≡ t
with_value-there s y x t e = rw e refl

with_value-elsewhere : (s : Substitution) (y x : Var) (t : Term) → same_var x y ≡ false → with_value s y t x ≡ s x
with_value-elsewhere s y x t e = rw e refl

module _ (In : Var → Term → Type 0) where
  -- each variable goes to one of its members, if it is listed, or to where it goes at first
  abbrev pub IsAssigned : List Var → Substitution → Substitution → Type 0
  IsAssigned xs first s = (x : Var) → (Contains xs x × In x (s x)) ⊎ (s x ≡ first x)

  -- what is assigned after y's value is so with y
  assigned_then : (y : Var) (ys : List Var) (first s : Substitution) (t : Term) → In y t → IsAssigned ys (with_value first y t) s → IsAssigned (y ∷ ys) first s
  assigned_then y ys first s t i given x = go (given x) (same_var x y) refl where
    go : (Contains ys x × In x (s x)) ⊎ (s x ≡ with_value first y t x) → (b : Bool) → same_var x y ≡ b → (Contains (y ∷ ys) x × In x (s x)) ⊎ (s x ≡ first x)
    go (inl w) b p = inl (contains_later y ys x w.0, w.1)
    go (inr e) true p =
        let q : y ≡ x = sym (same_var_is x y p) in
        let v : t ≡ s x = sym (e ∙ with_value-there first y x t p) in
        inl (subst (Contains (y ∷ ys)) q (contains_here y ys), subst (In x) v (subst (λ z. In z t) q i))
    go (inr e) false p = inr (e ∙ with_value-elsewhere first y x t p)

  assigned_later : (y : Var) (ys : List Var) (first s : Substitution) → IsAssigned ys first s → IsAssigned (y ∷ ys) first s
  assigned_later y ys first s given x = go (given x) where
    go : (Contains ys x × In x (s x)) ⊎ (s x ≡ first x) → (Contains (y ∷ ys) x × In x (s x)) ⊎ (s x ≡ first x)
    go (inl w) = inl (contains_later y ys x w.0, w.1)
    go (inr e) = inr e

  -- what is assigned with y is so after y's value
  assigned_now : (y : Var) (ys : List Var) (first s : Substitution) → IsAssigned (y ∷ ys) first s → IsAssigned ys (with_value first y (s y)) s
  assigned_now y ys first s given x = go (given x) (same_var x y) refl where
    go : (Contains (y ∷ ys) x × In x (s x)) ⊎ (s x ≡ first x) → (b : Bool) → same_var x y ≡ b → (Contains ys x × In x (s x)) ⊎ (s x ≡ with_value first y (s y) x)
    go h true p = inr (ap s (same_var_is x y p) ∙ sym (with_value-there first y x (s y) p))
    go (inl w) false p = elim (contains_cases y ys x w.0) as (λ _. (Contains ys x × In x (s x)) ⊎ (s x ≡ with_value first y (s y) x)) [
      | inl e ↦ absurd (true≢false (sym (subst (λ z. same_var z y ≡ true) e (same_var_itself y)) ∙ p))
      | inr i ↦ inl (i, w.1)
    ]
    go (inr e) false p = inr (e ∙ sym (with_value-elsewhere first y x (s y) p))

  assigned_stays : (y : Var) (ys : List Var) (first s : Substitution) → s y ≡ first y → IsAssigned (y ∷ ys) first s → IsAssigned ys first s
  assigned_stays y ys first s stays given x = go (given x) where
    go : (Contains (y ∷ ys) x × In x (s x)) ⊎ (s x ≡ first x) → (Contains ys x × In x (s x)) ⊎ (s x ≡ first x)
    go (inr e) = inr e
    go (inl w) = elim (contains_cases y ys x w.0) as (λ _. (Contains ys x × In x (s x)) ⊎ (s x ≡ first x)) [
      | inl e ↦ inr (subst (λ z. s z ≡ first z) e stays)
      | inr i ↦ inl (i, w.1)
    ]

  assigned_none : (first s : Substitution) → IsAssigned [] first s → (x : Var) → s x ≡ first x
  assigned_none first s given x = elim (given x) as (λ _. s x ≡ first x) [ inl w ↦ absurd (contains_none x w.0) | inr e ↦ e ]

  pub searched_substitutions : ((x : Var) → IsSearched (In x)) → (xs : List Var) (first : Substitution) (P : Substitution → Type 0) → ((s : Substitution) → Decided (P s)) → Decided (Found (IsAssigned xs first) P)
  searched_substitutions each [] first P decide = go (decide first) where
    go : Decided (P first) → Decided (Found (IsAssigned [] first) P)
    go (inl p) = inl (first, (λ x. inr refl, p))
    go (inr n) = inr (λ w. n (subst P (λ i x. assigned_none first w.0 w.1.0 x i) w.1.1))
  searched_substitutions each (y ∷ ys) first P decide =
      go (each y (λ t. Found (IsAssigned ys (with_value first y t)) P) (λ t i. searched_substitutions each ys (with_value first y t) P decide)) (searched_substitutions each ys first P decide)
    where
      Given : Type 0
      Given = Found (In y) (λ t. Found (IsAssigned ys (with_value first y t)) P)

      refused : (Given → ⊥) → (Found (IsAssigned ys first) P → ⊥) → (s : Substitution) → (given : IsAssigned (y ∷ ys) first s) → P s → ⊥
      refused m n s given p = elim (given y) as (λ _. ⊥) [
        | inl w ↦ m (s y, (w.1, (s, (assigned_now y ys first s given, p))))
        | inr e ↦ n (s, (assigned_stays y ys first s e given, p))
      ]

      go : Decided Given → Decided (Found (IsAssigned ys first) P) → Decided (Found (IsAssigned (y ∷ ys) first) P)
      go (inl w) rest = inl (w.1.1.0, (assigned_then y ys first w.1.1.0 w.0 w.1.0 w.1.1.1.0, w.1.1.1.1))
      go (inr m) (inl w) = inl (w.0, (assigned_later y ys first w.0 w.1.0, w.1.1))
      go (inr m) (inr n) = inr (λ w. refused m n w.0 w.1.0 w.1.1)
