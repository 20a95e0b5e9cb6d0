-- Lists, item by item.
use Rattle.std.proofs.Common.{◌≡◌, ◌≢◌, ℕ, ◌+◌, ◌<◌, ◌≤◌, List, length, take, get_or, sym, ap, ◌∙◌, subst, inl, inr, arith, All, AllPairs, Any, Contains, Some}
use Rattle.std.specs.Prelude.{◌⊎◌, slice_get}
use Rattle.std.proofs.lemmas.Bool.{cases_order}
use Rattle.std.proofs.lemmas.List.{get_or_default, get_or-take, length-take-le}
use Rattle.std.proofs.lemmas.Option.{slice_get-get_or}

module _ {A : Type 0} (P : A → Type 0) (xs : List A) where
  -- one more item
  pub more_items : (i : ℕ) (x : A) → i < length xs → x ≡ get_or xs i x → ((k : ℕ) (d : A) → k < i → P (get_or xs k d)) → P x → (k : ℕ) (d : A) → k < i + 1 → P (get_or xs k d)
  more_items i x within at below here k d l = go (cases_order k i)
    where
      go : (k ≡ i) ⊎ ((k < i) ⊎ (i < k)) → P (get_or xs k d)
      go (inl e) = subst P (at ∙ get_or_default xs i x d within ∙ ap (λ n. get_or xs n d) (sym e)) here
      go (inr (inl b)) = below k d b
      go (inr (inr a)) = absurd (omega (arith, l, a))

  -- all items
  pub all_items : (i : ℕ) → length xs ≤ i → ((k : ℕ) (d : A) → k < i → P (get_or xs k d)) → All P xs
  all_items i over below k d l = below k d (omega (arith, l, over))

-- two different columns have different classes
pub places_differ : (xs : List ℕ) → AllPairs ◌≢◌ xs → (i j : ℕ) → i < length xs → j < length xs → i ≢ j → get_or xs i 0 ≢ get_or xs j 0
places_differ xs distinct i j l m n e = go (cases_order i j)
  where
    go : (i ≡ j) ⊎ ((i < j) ⊎ (j < i)) → ⊥
    go (inl s) = n s
    go (inr (inl b)) = distinct i j 0 b m e
    go (inr (inr b)) = distinct j i 0 b l (sym e)

-- what is among the first n of a list stands there
pub taken_at : {A : Type 0} (xs : List A) (n : ℕ) (x : A) → n ≤ length xs → Contains (take n xs) x → (q : ℕ) × (q < n) × (slice_get xs q ≡ Some x)
taken_at xs n x l c =
    let m = length-take-le n xs l in
    let within : c.0 < n = let w = c.1 in omega (arith, w, m) in
    (c.0, within, slice_get-get_or xs c.0 x (omega (arith, within, l)) ∙ ap Some (sym (get_or-take n xs c.0 x within) ∙ c.2))

-- what holds at a place holds of some item up to there
pub any_taken : {A : Type 0} (P : A → Type 0) (xs : List A) (i : ℕ) (x : A) → i < length xs → x ≡ get_or xs i x → P x → Any P (take (i + 1) xs)
any_taken P xs i x l is p =
    let m = length-take-le (i + 1) xs (omega (arith, l)) in
    (i, x, omega (arith, m), get_or-take (i + 1) xs i x (omega arith) ∙ sym is, p)
