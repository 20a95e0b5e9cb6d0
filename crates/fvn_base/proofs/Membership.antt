-- Elements of lists.
use Rattle.std.proofs.Common.{◌≡◌, zero, suc, ◌<◌, Bool, true, false, List, [], ◌∷◌, map, length, refl, sym, subst, ◌∙◌, ◌⊎◌, inl, inr, arith, Option, Some}
use Rattle.std.specs.List.{Contains, filter, list_all}
use Rattle.std.specs.Prelude.{find, unwrap_or, cond}
use Rattle.std.proofs.lemmas.Bool.{and_parts, and_from, true≢false}

module _ {A : Type 0} where
  pub contains_here : (x : A) (xs : List A) → Contains (x ∷ xs) x
  contains_here x xs = (0, omega arith, refl)

  pub contains_later : (x : A) (xs : List A) (y : A) → Contains xs y → Contains (x ∷ xs) y
  contains_later x xs y h = (suc h.0, let l : h.0 < length xs = h.1 in omega arith, h.2)

  pub contains_cases : (x : A) (xs : List A) (y : A) → Contains (x ∷ xs) y → (x ≡ y) ⊎ Contains xs y
  contains_cases x xs y (zero, l, e) = inl e
  contains_cases x xs y (suc k, l, e) = inr (k, omega arith, e)

  pub contains_none : (y : A) → Contains [] y → ⊥
  contains_none y (k, l, e) = omega arith

  either : {P : Type 0} (x : A) (xs : List A) (y : A) → Contains (x ∷ xs) y → (x ≡ y → P) → (Contains xs y → P) → P
  either {P} x xs y h f g = elim (contains_cases x xs y h) as (λ _. P) [ inl e ↦ f e | inr i ↦ g i ]

  -- what a filter keeps is an element that passes
  pub filter_contains : (p : A → Bool) (xs : List A) (y : A) → Contains (filter p xs) y → Contains xs y × (p y ≡ true)
  filter_contains p [] y h = absurd (contains_none y h)
  filter_contains p (x ∷ xs) y h = go (p x) refl (filter_contains p xs y) h where
    later : Contains xs y × (p y ≡ true) → Contains (x ∷ xs) y × (p y ≡ true)
    later r = (contains_later x xs y r.0, r.1)

    go : (b : Bool) → p x ≡ b → (Contains (filter p xs) y → Contains xs y × (p y ≡ true)) → Contains (cond b (x ∷ filter p xs) (filter p xs)) y → Contains (x ∷ xs) y × (p y ≡ true)
    go true e rest h = either x (filter p xs) y h (λ q. (subst (Contains (x ∷ xs)) q (contains_here x xs), subst (λ z. p z ≡ true) q e)) (λ i. later (rest i))
    go false e rest h = later (rest h)

  pub contains_filter : (p : A → Bool) (xs : List A) (y : A) → Contains xs y → p y ≡ true → Contains (filter p xs) y
  contains_filter p [] y h e = absurd (contains_none y h)
  contains_filter p (x ∷ xs) y h e = go (p x) refl (contains_filter p xs y) where
    go : (b : Bool) → p x ≡ b → (Contains xs y → p y ≡ true → Contains (filter p xs) y) → Contains (cond b (x ∷ filter p xs) (filter p xs)) y
    go true q rest = either x xs y h (λ s. subst (Contains (x ∷ filter p xs)) s (contains_here x (filter p xs))) (λ i. contains_later x (filter p xs) y (rest i e))
    go false q rest = either x xs y h (λ s. absurd (true≢false (sym e ∙ subst (λ z. p z ≡ false) s q))) (λ i. rest i e)

  -- a test of all elements
  pub list_all_gives : (p : A → Bool) (xs : List A) (y : A) → list_all p xs ≡ true → Contains xs y → p y ≡ true
  list_all_gives p [] y e h = absurd (contains_none y h)
  list_all_gives p (x ∷ xs) y e h = let r = and_parts (p x) (list_all p xs) e in either x xs y h (λ q. subst (λ z. p z ≡ true) q r.0) (list_all_gives p xs y r.1)

  pub list_all_from : (p : A → Bool) (xs : List A) → ((y : A) → Contains xs y → p y ≡ true) → list_all p xs ≡ true
  list_all_from p [] h = refl
  list_all_from p (x ∷ xs) h = and_from (p x) (list_all p xs) (h x (contains_here x xs)) (list_all_from p xs (λ y i. h y (contains_later x xs y i)))

  -- a search finds an element that passes, where there is one
  pub find_or : (p : A → Bool) (xs : List A) (y d : A) → Contains xs y → p y ≡ true → Contains xs (unwrap_or (find p xs) d) × (p (unwrap_or (find p xs) d) ≡ true)
  find_or p [] y d h e = absurd (contains_none y h)
  find_or p (x ∷ xs) y d h e = go (p x) refl (find_or p xs y d) where
    Found : Option A → List A → Type 0
    Found o zs = Contains zs (unwrap_or o d) × (p (unwrap_or o d) ≡ true)

    go : (b : Bool) → p x ≡ b → (Contains xs y → p y ≡ true → Contains xs (unwrap_or (find p xs) d) × (p (unwrap_or (find p xs) d) ≡ true)) → Contains (x ∷ xs) (unwrap_or (cond b (Some x) (find p xs)) d) × (p (unwrap_or (cond b (Some x) (find p xs)) d) ≡ true)
    go true q rest = (contains_here x xs, q)
    go false q rest = either x xs y h (λ s. absurd (true≢false (sym e ∙ subst (λ z. p z ≡ false) s q))) (λ i. let r = rest i e in (contains_later x xs _ r.0, r.1))

pub contains_map : {A B : Type 0} (f : A → B) (xs : List A) (x : A) → Contains xs x → Contains (map f xs) (f x)
contains_map f [] x h = absurd (contains_none x h)
contains_map f (y ∷ xs) x h = either y xs x h (λ e. subst (λ z. Contains (f y ∷ map f xs) (f z)) e (contains_here (f y) (map f xs))) (λ i. contains_later (f y) (map f xs) (f x) (contains_map f xs x i))

pub map_contains : {A B : Type 0} (f : A → B) (xs : List A) (b : B) → Contains (map f xs) b → (x : A) × (Contains xs x × (f x ≡ b))
map_contains f [] b h = absurd (contains_none b h)
map_contains f (y ∷ xs) b h = either (f y) (map f xs) b h (λ e. (y, (contains_here y xs, e))) (λ i. let r = map_contains f xs b i in (r.0, (contains_later y xs r.0 r.1.0, r.1.1)))
