-- Elements of lists: some, all, and each with a later one.
use Rattle.std.proofs.Common.{◌≡◌, ◌⊎◌, ℕ, zero, suc, ◌<◌, List, [], ◌∷◌, ◌++◌, map, length, refl, sym, ap, ◌∙◌, subst, inl, inr, arith, Some, slice_get, Any, AllPairs, Contains}
use Rattle.std.proofs.lemmas.Option.{slice_get_within, slice_get-get_or, get_or_from_slice_get}
use Rattle.std.proofs.lemmas.List.Kept.{AllPairs-cons}
use Rattle.std.proofs.lemmas.List.Elements.{Contains-append_cases}
use Rattle.fvn_base.proofs.Membership.{contains_here, contains_later, contains_cases, contains_none, map_contains}
use Rattle.fvn_base.proofs.Pigeonhole.{AllPairs-tail, AllPairs-first}
use Rattle.fvn_combine_nodes.proofs.Lists.{all_from}

module _ {A : Type 0} where
  pub contains_left : (xs ys : List A) (y : A) → Contains xs y → Contains (xs ++ ys) y
  contains_left [] ys y h = absurd (contains_none y h)
  contains_left (x ∷ xs) ys y h = elim (contains_cases x xs y h) [
    | inl e ↦ subst (Contains (x ∷ (xs ++ ys))) e (contains_here x (xs ++ ys))
    | inr r ↦ contains_later x (xs ++ ys) y (contains_left xs ys y r)
  ]

  pub contains_right : (xs ys : List A) (y : A) → Contains ys y → Contains (xs ++ ys) y
  contains_right [] ys y h = h
  contains_right (x ∷ xs) ys y h = contains_later x (xs ++ ys) y (contains_right xs ys y h)

  -- what stands at a place is an element, and an element stands at a place
  pub contains_at : (xs : List A) (k : ℕ) (x : A) → slice_get xs k ≡ Some x → Contains xs x
  contains_at xs k x e = (k, slice_get_within xs k x e, get_or_from_slice_get xs k x x e)

  pub place_of : (xs : List A) (x : A) → Contains xs x → (k : ℕ) × (slice_get xs k ≡ Some x)
  place_of xs x h = (h.0, slice_get-get_or xs h.0 x h.1 ∙ ap Some h.2)

  -- the place of an element in a longer list
  pub slice_get-left : (xs ys : List A) (k : ℕ) (x : A) → slice_get xs k ≡ Some x → slice_get (xs ++ ys) k ≡ Some x
  slice_get-left [] ys k x e = cc
  slice_get-left (y ∷ xs) ys zero x e = e
  slice_get-left (y ∷ xs) ys (suc k) x e = slice_get-left xs ys k x e

  pub slice_get-middle : (xs ys : List A) (x : A) → slice_get (xs ++ x ∷ ys) (length xs) ≡ Some x
  slice_get-middle [] ys x = refl
  slice_get-middle (y ∷ xs) ys x = slice_get-middle xs ys x

  -- an element of a list with one more at the end is an earlier one or that one
  pub slice_get-push : (xs : List A) (x y : A) (k : ℕ) → slice_get (xs ++ x ∷ []) k ≡ Some y → (slice_get xs k ≡ Some y) ⊎ ((k ≡ length xs) × (x ≡ y))
  slice_get-push [] x y zero e = inr (refl, cc)
  slice_get-push [] x y (suc k) e = cc
  slice_get-push (z ∷ xs) x y zero e = inl e
  slice_get-push (z ∷ xs) x y (suc k) e = elim (slice_get-push xs x y k e) [
    | inl l ↦ inl l
    | inr r ↦ inr (let n = r.0 in omega arith, r.1)
  ]

  pub slice_get-some : (xs : List A) (k : ℕ) → k < length xs → (x : A) × (slice_get xs k ≡ Some x)
  slice_get-some [] k l = absurd (omega arith)
  slice_get-some (x ∷ xs) zero l = (x, refl)
  slice_get-some (x ∷ xs) (suc k) l = slice_get-some xs k (omega arith)

  pub any_here : (P : A → Type 0) (x : A) (xs : List A) → P x → Any P (x ∷ xs)
  any_here P x xs h = (0, x, omega arith, refl, h)

  pub any_later : (P : A → Type 0) (x : A) (xs : List A) → Any P xs → Any P (x ∷ xs)
  any_later P x xs h = let l = h.2 in (suc h.0, h.1, omega arith, h.3, h.4)

  pub any_none : (P : A → Type 0) → Any P [] → ⊥
  any_none P h = let l = h.2 in omega arith

  pub any_cases : (P : A → Type 0) (x : A) (xs : List A) → Any P (x ∷ xs) → P x ⊎ Any P xs
  any_cases P x xs (zero, y, l, e, h) = inl (subst P (sym e) h)
  any_cases P x xs (suc k, y, l, e, h) = inr (k, y, omega arith, e, h)

  pub any_one : (P : A → Type 0) (x : A) → Any P (x ∷ []) → P x
  any_one P x h = elim (any_cases P x [] h) [ inl p ↦ p | inr r ↦ absurd (any_none P r) ]

  pub any_from : (P : A → Type 0) (xs : List A) (x : A) → Contains xs x → P x → Any P xs
  any_from P xs x c h = (c.0, x, c.1, c.2, h)

  pub any_contains : (P : A → Type 0) (xs : List A) → Any P xs → (x : A) × Contains xs x × P x
  any_contains P xs h = (h.1, (h.0, h.2, h.3), h.4)

  pub any_left : (P : A → Type 0) (xs ys : List A) → Any P xs → Any P (xs ++ ys)
  any_left P xs ys h = let r = any_contains P xs h in any_from P (xs ++ ys) r.0 (contains_left xs ys r.0 r.1) r.2

  pub any_right : (P : A → Type 0) (xs ys : List A) → Any P ys → Any P (xs ++ ys)
  any_right P xs ys h = let r = any_contains P ys h in any_from P (xs ++ ys) r.0 (contains_right xs ys r.0 r.1) r.2

  pub any_append : (P : A → Type 0) (xs ys : List A) → Any P (xs ++ ys) → Any P xs ⊎ Any P ys
  any_append P xs ys h =
      let r = any_contains P (xs ++ ys) h in
      elim (Contains-append_cases xs ys r.0 r.1) [ inl a ↦ inl (any_from P xs r.0 a r.2) | inr b ↦ inr (any_from P ys r.0 b r.2) ]

  pub all_pairs_none : (R : A → A → Type 0) → AllPairs R []
  all_pairs_none R i j d a b = absurd (omega (arith, b))

  pub all_pairs_one : (R : A → A → Type 0) (x : A) → AllPairs R (x ∷ [])
  all_pairs_one R x i j d a b = absurd (omega (arith, a, b))

  pub all_pairs_two : (R : A → A → Type 0) (x y : A) → R x y → AllPairs R (x ∷ y ∷ [])
  all_pairs_two R x y h = AllPairs-cons R x (y ∷ []) (all_from (R x) (y ∷ []) (λ z c. elim (contains_cases y [] z c) [ inl e ↦ subst (R x) e h | inr r ↦ absurd (contains_none z r) ])) (all_pairs_one R y)

  pub all_pairs_append : (R : A → A → Type 0) (xs ys : List A) → AllPairs R xs → AllPairs R ys → ((x y : A) → Contains xs x → Contains ys y → R x y) → AllPairs R (xs ++ ys)
  all_pairs_append R [] ys h k f = k
  all_pairs_append R (x ∷ xs) ys h k f =
      AllPairs-cons R x (xs ++ ys)
      (all_from (R x) (xs ++ ys) (λ y c. elim (Contains-append_cases xs ys y c) [ inl a ↦ AllPairs-first R x xs y h a | inr b ↦ f x y (contains_here x xs) b ]))
      (all_pairs_append R xs ys (AllPairs-tail R x xs h) k (λ u v a b. f u v (contains_later x xs u a) b))

  pub all_pairs_front : (R : A → A → Type 0) (xs ys : List A) → AllPairs R (xs ++ ys) → AllPairs R xs
  all_pairs_front R [] ys h = all_pairs_none R
  all_pairs_front R (x ∷ xs) ys h =
      AllPairs-cons R x xs (all_from (R x) xs (λ y c. AllPairs-first R x (xs ++ ys) y h (contains_left xs ys y c))) (all_pairs_front R xs ys (AllPairs-tail R x (xs ++ ys) h))

  pub all_pairs_cross : (R : A → A → Type 0) (xs ys : List A) → AllPairs R (xs ++ ys) → (x y : A) → Contains xs x → Contains ys y → R x y
  all_pairs_cross R [] ys h x y a b = absurd (contains_none x a)
  all_pairs_cross R (z ∷ xs) ys h x y a b = elim (contains_cases z xs x a) [
    | inl e ↦ subst (λ u. R u y) e (AllPairs-first R z (xs ++ ys) y h (contains_right xs ys y b))
    | inr c ↦ all_pairs_cross R xs ys (AllPairs-tail R z (xs ++ ys) h) x y c b
  ]

module _ {A B : Type 0} where
  pub all_pairs_map : (S : A → A → Type 0) (R : B → B → Type 0) (f : A → B) → ((x y : A) → S x y → R (f x) (f y)) → (xs : List A) → AllPairs S xs → AllPairs R (map f xs)
  all_pairs_map S R f g [] h = all_pairs_none R
  all_pairs_map S R f g (x ∷ xs) h =
      AllPairs-cons R (f x) (map f xs)
      (all_from (R (f x)) (map f xs) (λ y c. let m = map_contains f xs y c in subst (R (f x)) m.1.1 (g x m.0 (AllPairs-first S x xs m.0 h m.1.0))))
      (all_pairs_map S R f g xs (AllPairs-tail S x xs h))

  -- where two functions agree on a list, each element has one value
  pub map_same : (f g : A → B) (xs : List A) → map f xs ≡ map g xs → (x : A) → Contains xs x → f x ≡ g x
  map_same f g [] e x h = absurd (contains_none x h)
  map_same f g (y ∷ xs) e x h =
      let first : f y ≡ g y = cc in
      let rest : map f xs ≡ map g xs = cc in
      elim (contains_cases y xs x h) [ inl s ↦ subst (λ z. f z ≡ g z) s first | inr r ↦ map_same f g xs rest x r ]

  pub map_equal : (f g : A → B) (xs : List A) → ((x : A) → Contains xs x → f x ≡ g x) → map f xs ≡ map g xs
  map_equal f g [] h = refl
  map_equal f g (x ∷ xs) h =
      let first = h x (contains_here x xs) in
      let rest = map_equal f g xs (λ y c. h y (contains_later x xs y c)) in
      cc
