-- Lists to which only what is new is added.
use Rattle.std.proofs.Common.{◌≡◌, Bool, true, false, cond, List, [], ◌∷◌, ◌++◌, refl, subst, ◌⊎◌, inl, inr}
use Rattle.std.specs.List.{Contains, list_any}
use Rattle.std.proofs.lemmas.List.Elements.{Contains-append_left, Contains-push, Contains-push_cases}
use Rattle.std.proofs.lemmas.Map.Views.{Contains-from_any}
use Rattle.fvn_base.proofs.Membership.{contains_here, contains_later, contains_cases, contains_none}
use Rattle.fvn_module_names.specs.Order.{with_new, with_all}

module _ {A : Type 0} (same : A → A → Bool) where
  pub with_all-append : (xs ys zs : List A) → with_all same xs (ys ++ zs) ≡ with_all same (with_all same xs ys) zs
  with_all-append xs [] zs = refl
  with_all-append xs (y ∷ ys) zs = with_all-append (with_new same xs y) ys zs

  -- what is in the new list was in one of the two
  pub contains_with_new : (xs : List A) (y z : A) → Contains (with_new same xs y) z → Contains xs z ⊎ (y ≡ z)
  contains_with_new xs y z h = go (list_any (same y) xs) h where
    go : (b : Bool) → Contains (cond b xs (xs ++ y ∷ [])) z → Contains xs z ⊎ (y ≡ z)
    go true k = inl k
    go false k = Contains-push_cases xs y z k

  pub contains_with_all : (xs ys : List A) (z : A) → Contains (with_all same xs ys) z → Contains xs z ⊎ Contains ys z
  contains_with_all xs [] z h = inl h
  contains_with_all xs (y ∷ ys) z h = go (contains_with_all (with_new same xs y) ys z h) where
    go : Contains (with_new same xs y) z ⊎ Contains ys z → Contains xs z ⊎ Contains (y ∷ ys) z
    go (inl k) = elim (contains_with_new xs y z k) [ inl m ↦ inl m | inr e ↦ inr (subst (Contains (y ∷ ys)) e (contains_here y ys)) ]
    go (inr k) = inr (contains_later y ys z k)

  pub with_new_contains_old : (xs : List A) (y z : A) → Contains xs z → Contains (with_new same xs y) z
  with_new_contains_old xs y z h = go (list_any (same y) xs) where
    go : (b : Bool) → Contains (cond b xs (xs ++ y ∷ [])) z
    go true = h
    go false = Contains-append_left xs (y ∷ []) z h

  pub with_all_contains_old : (xs ys : List A) (z : A) → Contains xs z → Contains (with_all same xs ys) z
  with_all_contains_old xs [] z h = h
  with_all_contains_old xs (y ∷ ys) z h = with_all_contains_old (with_new same xs y) ys z (with_new_contains_old xs y z h)

  module _ (agrees : (x y : A) → same x y ≡ true → x ≡ y) where
    pub with_new_contains : (xs : List A) (y : A) → Contains (with_new same xs y) y
    with_new_contains xs y = go (list_any (same y) xs) refl where
      go : (b : Bool) → list_any (same y) xs ≡ b → Contains (cond b xs (xs ++ y ∷ [])) y
      go true e = Contains-from_any agrees y xs e
      go false e = Contains-push xs y

    pub with_all_contains : (xs ys : List A) (z : A) → Contains ys z → Contains (with_all same xs ys) z
    with_all_contains xs [] z h = absurd (contains_none z h)
    with_all_contains xs (y ∷ ys) z h = go (contains_cases y ys z h) (with_all_contains (with_new same xs y) ys z) where
      go : (y ≡ z) ⊎ Contains ys z → (Contains ys z → Contains (with_all same (with_new same xs y) ys) z) → Contains (with_all same (with_new same xs y) ys) z
      go (inl e) later = subst (Contains (with_all same (with_new same xs y) ys)) e (with_all_contains_old (with_new same xs y) ys y (with_new_contains xs y))
      go (inr k) later = later k
