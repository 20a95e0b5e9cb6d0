-- Steps of loops over a list whose elements are read through a function.
use Rattle.std.proofs.Common.{◌≡◌, ℕ, ◌+◌, ◌<◌, ◌≤◌, ◌⊎◌, List, [], ◌∷◌, ◌++◌, length, get_or, take, map, sym, ap, ◌∙◌, subst, arith}
use Rattle.std.specs.List.{All, Contains}
use Rattle.std.proofs.lemmas.List.{map_more, take_all, get_or-map, length-map}
use Rattle.std.proofs.lemmas.List.Elements.{All-push, Contains-push, Contains-append_left, Contains-push_cases}

module _ {X Y : Type 0} (f : X → Y) where
  mapped_more : (xs : List X) (i : ℕ) (x : X) → i < length xs → x ≡ get_or xs i x → map f (take (i + 1) xs) ≡ map f (take i xs) ++ (f x ∷ [])
  mapped_more xs i x l e = map_more f xs i x l ∙ ap (λ z. map f (take i xs) ++ (f z ∷ [])) (sym e)

  pub all_mapped_more : (P : Y → Type 0) (xs : List X) (i : ℕ) (x : X) → i < length xs → x ≡ get_or xs i x → P (f x) → All P (map f (take i xs)) → All P (map f (take (i + 1) xs))
  all_mapped_more P xs i x l e p h = subst (All P) (sym (mapped_more xs i x l e)) (All-push P (map f (take i xs)) (f x) h p)

  pub all_mapped_all : (P : Y → Type 0) (xs : List X) (i : ℕ) → length xs ≤ i → All P (map f (take i xs)) → All P (map f xs)
  all_mapped_all P xs i l h = subst (λ z. All P (map f z)) (take_all i xs l) h

  -- what holds of each holds of what is read of this one
  pub all_mapped_at : (P : Y → Type 0) (xs : List X) (i : ℕ) (x : X) (y : Y) → i < length xs → x ≡ get_or xs i x → y ≡ f x → All P (map f xs) → P y
  all_mapped_at P xs i x y l e read h =
      let n : i < length (map f xs) = omega (arith, length-map xs f) in
      subst P (get_or-map f xs i x y l ∙ (ap f (sym e) ∙ sym read)) (h i y n)

  pub mapped_member_old : (xs : List X) (i : ℕ) (x : X) (y : Y) → i < length xs → x ≡ get_or xs i x → Contains (map f (take i xs)) y → Contains (map f (take (i + 1) xs)) y
  mapped_member_old xs i x y l e h = subst (λ z. Contains z y) (sym (mapped_more xs i x l e)) (Contains-append_left (map f (take i xs)) (f x ∷ []) y h)

  pub mapped_member_new : (xs : List X) (i : ℕ) (x : X) → i < length xs → x ≡ get_or xs i x → Contains (map f (take (i + 1) xs)) (f x)
  mapped_member_new xs i x l e = subst (λ z. Contains z (f x)) (sym (mapped_more xs i x l e)) (Contains-push (map f (take i xs)) (f x))

  pub mapped_member_cases : (xs : List X) (i : ℕ) (x : X) (y : Y) → i < length xs → x ≡ get_or xs i x → Contains (map f (take (i + 1) xs)) y → Contains (map f (take i xs)) y ⊎ (f x ≡ y)
  mapped_member_cases xs i x y l e h = Contains-push_cases (map f (take i xs)) (f x) y (subst (λ z. Contains z y) (mapped_more xs i x l e) h)
