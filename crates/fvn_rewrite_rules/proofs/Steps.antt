-- Lists that grow by one step of a loop.
use Rattle.std.proofs.Common.{◌≡◌, ◌<◌, ◌+◌, ℕ, List, [], ◌∷◌, ◌++◌, map, length, take, get_or, Option, sym, ap, ◌∙◌, subst}
use Rattle.std.specs.Prelude.{All, filter_map}
use Rattle.std.specs.List.{Contains, cons_option}
use Rattle.std.proofs.lemmas.List.{take_more, map_more, append_assoc}
use Rattle.std.proofs.lemmas.List.Elements.{filter_map-append, Contains-get_or}

module _ {A B : Type 0} where
  -- one changed element more, behind others
  pub map-append-step : (f : A → B) (xs : List B) (ys : List A) (i : ℕ) (y : A) (z : B) → i < length ys → y ≡ get_or ys i y → z ≡ f y → (xs ++ map f (take i ys)) ++ z ∷ [] ≡ xs ++ map f (take (i + 1) ys)
  map-append-step f xs ys i y z within is e =
      append_assoc xs (map f (take i ys)) (z ∷ [])
      ∙ ap (λ v. xs ++ (map f (take i ys) ++ v ∷ [])) (e ∙ ap f is)
      ∙ ap (λ l. xs ++ l) (sym (map_more f ys i y within))

  -- one element more of what a filter with changes keeps, or none
  pub filter_map-more : (h : A → Option B) (ys : List A) (i : ℕ) (y : A) (o : Option B) → i < length ys → y ≡ get_or ys i y → h y ≡ o → filter_map h (take (i + 1) ys) ≡ filter_map h (take i ys) ++ cons_option o []
  filter_map-more h ys i y o within is e =
      ap (filter_map h) (take_more ys i y within ∙ ap (λ v. take i ys ++ v ∷ []) (sym is))
      ∙ filter_map-append h (take i ys) (y ∷ [])
      ∙ ap (λ p. filter_map h (take i ys) ++ cons_option p []) e

module _ {A : Type 0} where
  -- what is taken, with one more
  pub take-step : (ys : List A) (i : ℕ) (y : A) → i < length ys → y ≡ get_or ys i y → take (i + 1) ys ≡ take i ys ++ y ∷ []
  take-step ys i y within is = take_more ys i y within ∙ ap (λ v. take i ys ++ v ∷ []) (sym is)

  -- what holds of all holds of an element that is read
  pub All-item : (P : A → Type 0) (ys : List A) → All P ys → (i : ℕ) (y : A) → i < length ys → y ≡ get_or ys i y → P y
  All-item P ys h i y within is = subst P (sym is) (h i y within)

  -- an element that is read, in a list that is the same
  pub listed_at : (ys zs : List A) → ys ≡ zs → (i : ℕ) (y : A) → i < length ys → Contains zs (get_or ys i y)
  listed_at ys zs e i y within = subst (λ l. Contains l (get_or ys i y)) e (Contains-get_or ys i y within)
