-- Texts in lists: places, and lists of different texts.
use Rattle.std.proofs.Common.{◌≡◌, ◌≢◌, ℕ, ◌+◌, ◌<◌, Bool, true, false, cond, List, [], ◌∷◌, ◌++◌, length, map, Some, None, refl, sym, ap, ◌∙◌, arith, Vec, Global}
use Rattle.std.specs.Prelude.{is_none, not, AllPairs}
use Rattle.std.specs.List.{list_any, position_from, IsDistinct, AllByRecursion}
use Rattle.std.specs.Str.{bytes_eq}
use Rattle.std.proofs.lemmas.Slice.Eq.{bytes_eq-Decides}
use Rattle.std.proofs.lemmas.Map.Made.{AllPairs-from_IsDistinct}
use Rattle.indexmap.specs.IndexSet.{insert_key}
use Rattle.fvn_syntax.specs.Pieces.{Text}
use Rattle.fvn_syntax.specs.Texts.{place}

pub position-map : {A B : Type 0} (p : B → Bool) (f : A → B) (i : ℕ) (xs : List A) → position_from p i (map f xs) ≡ position_from (λ x. p (f x)) i xs
position-map p f i [] = refl
position-map p f i (x ∷ xs) = ap (cond (p (f x)) (Some i)) (position-map p f (i + 1) xs)

-- a test finds an element exactly where it has a place
pub position-any : {A : Type 0} (p : A → Bool) (i : ℕ) (xs : List A) → list_any p xs ≡ not (is_none (position_from p i xs))
position-any p i [] = refl
position-any p i (x ∷ xs) = go (p x) refl (position-any p (i + 1) xs) where
  go : (b : Bool) → p x ≡ b → list_any p xs ≡ not (is_none (position_from p (i + 1) xs)) → list_any p (x ∷ xs) ≡ not (is_none (position_from p i (x ∷ xs)))
  go true e later = rw e refl
  go false e later = rw e later

all-map : {A : Type 0} (f : A → Text) (t : Text) (xs : List A) → AllByRecursion (λ y. bytes_eq t (f y) ≡ false) xs → AllByRecursion (λ u. bytes_eq t u ≡ false) (map f xs)
all-map f t [] h = tt
all-map f t (x ∷ xs) h = (h.0, all-map f t xs h.1)

distinct-map : {A : Type 0} (f : A → Text) (xs : List A) → IsDistinct (λ v w. bytes_eq (f v) (f w)) xs → IsDistinct bytes_eq (map f xs)
unfolding IsDistinct
distinct-map f [] h = tt
distinct-map f (x ∷ xs) h = (all-map f (f x) xs h.0, distinct-map f xs h.1)

-- texts that are not equal by the test are different
pub distinct-pairs : {A : Type 0} (f : A → Text) (xs : List A) → IsDistinct (λ v w. bytes_eq (f v) (f w)) xs → AllPairs (λ x y. x ≢ y) (map f xs)
distinct-pairs f xs h = AllPairs-from_IsDistinct bytes_eq-Decides (map f xs) (distinct-map f xs h)

position-below : {A : Type 0} (p : A → Bool) (i : ℕ) (xs : List A) (k : ℕ) → position_from p i xs ≡ Some k → k < i + length xs
position-below p i [] k h = cc
position-below p i (x ∷ xs) k h = go (p x) refl (position-below p (i + 1) xs k) where
  go : (b : Bool) → p x ≡ b → (position_from p (i + 1) xs ≡ Some k → k < i + 1 + length xs) → k < i + length (x ∷ xs)
  go true e later = let f : i ≡ k = (let g = rw e at h in cc) in omega arith
  go false e later = let g = later (rw e at h) in omega arith

pub place-below : (texts : List Text) (t : Text) (k : ℕ) → place texts t ≡ Some k → k < length texts
place-below texts t k h = let e = position-below (bytes_eq t) 0 texts k h in omega arith

-- a key of a set of texts
abbrev pub Key : Type 0
Key = Vec ℕ Global

abbrev pub bytes_in : Key → Text
bytes_in v = v.items

map-push : (keys : List Key) (key : Key) → map bytes_in (keys ++ (key ∷ [])) ≡ map bytes_in keys ++ (key.items ∷ [])
map-push [] key = refl
map-push (k ∷ keys) key = ap (λ ts. k.items ∷ ts) (map-push keys key)

abbrev same_bytes : Key → Key → Bool
same_bytes v w = bytes_eq v.items w.items

-- a new key goes to the end
pub inserted : (keys news : List Key) (copy : Key) (old : List Text) (text : Text) → map bytes_in keys ≡ old → copy.items ≡ text →
    place old text ≡ None → news ≡ insert_key same_bytes keys copy → map bytes_in news ≡ old ++ (text ∷ [])
inserted keys news copy old text h e none n = ap (map bytes_in) (n ∙ last) ∙ map-push keys copy ∙ ap (λ ts. ts ++ (copy.items ∷ [])) h ∙ ap (λ t. old ++ (t ∷ [])) e where
  absent : list_any (same_bytes copy) keys ≡ false
  absent =
      position-any (λ w. bytes_eq copy.items (bytes_in w)) 0 keys
      ∙ ap (λ o. not (is_none o)) (sym (position-map (bytes_eq copy.items) bytes_in 0 keys) ∙ ap (λ ts. place ts copy.items) h ∙ ap (place old) e ∙ none)

  last : insert_key same_bytes keys copy ≡ keys ++ (copy ∷ [])
  last = rw absent refl
