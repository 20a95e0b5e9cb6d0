-- Lists of the first sorts, and searches among them.
use Rattle.std.proofs.Common.{◌≡◌, ℕ, suc, ◌+◌, ◌-◌, ◌<◌, Bool, true, false, ◌&&◌, List, [], ◌∷◌, ◌++◌, map, length, get_or, refl, sym, ap, ◌∙◌, arith, Some}
use Rattle.std.specs.List.{list_all, Contains, range_with_len}
use Rattle.std.specs.Prelude.{cond, find, nat_eq}
use Rattle.std.proofs.lemmas.Bool.{eqb-false, false≢true}
use Rattle.std.proofs.lemmas.List.{length-map, get_or-map, map-append}
use Rattle.std.proofs.lemmas.List.FromFn.{map-range_with_len_more, length-map-range_with_len, get_or-map-range_with_len}
use Rattle.fvn_terms.specs.declared.plain.SortId.{SortId}
use Rattle.fvn_forms.specs.SortOrder.{sort_number}
use Rattle.fvn_signature.specs.FirstSorts.{first_sorts}

-- a number that is not tested as 0 is above it
pub positive : (n : ℕ) → false ≡ nat_eq n 0 → 0 < n
positive n e = go (eqb-false n 0 (sym e)) where
  go : (n ≡ 0 → ⊥) → 0 < n
  go ne = omega arith

-- two tests with one answer on true are one
pub same_tests : (a b : Bool) → (a ≡ true → b ≡ true) → (b ≡ true → a ≡ true) → a ≡ b
same_tests true true f g = refl
same_tests true false f g = absurd (false≢true (f refl))
same_tests false true f g = absurd (false≢true (g refl))
same_tests false false f g = refl

pub find-agree : {A : Type 0} (p q : A → Bool) → ((x : A) → p x ≡ q x) → (xs : List A) → find p xs ≡ find q xs
find-agree p q same [] = refl
find-agree {A} p q same (x ∷ xs) = ap (λ b. cond b (Some x) (find p xs)) (same x) ∙ ap (cond (q x) (Some x)) (find-agree p q same xs)

-- a search among the sorts from q on
range_from : (q n : ℕ) → q < n → range_with_len q (n - q) ≡ q ∷ range_with_len (q + 1) (n - (q + 1))
range_from q n l = let e : n - q ≡ suc (n - (q + 1)) = omega arith in ap (range_with_len q) e

pub find_from-false : (p : SortId → Bool) (q n : ℕ) → q < n → p (sort_number q) ≡ false → find p (map sort_number (range_with_len q (n - q))) ≡ find p (map sort_number (range_with_len (q + 1) (n - (q + 1))))
find_from-false p q n l e =
    ap (λ xs. find p (map sort_number xs)) (range_from q n l) ∙ ap (λ b. cond b (Some (sort_number q)) (find p (map sort_number (range_with_len (q + 1) (n - (q + 1)))))) e

pub find_from-true : (p : SortId → Bool) (q n : ℕ) → q < n → p (sort_number q) ≡ true → find p (map sort_number (range_with_len q (n - q))) ≡ Some (sort_number q)
find_from-true p q n l e =
    ap (λ xs. find p (map sort_number xs)) (range_from q n l) ∙ ap (λ b. cond b (Some (sort_number q)) (find p (map sort_number (range_with_len (q + 1) (n - (q + 1)))))) e

-- a list made of the first sorts, one sort more
pub map_sorts-more : {A : Type 0} (f : SortId → A) (s : ℕ) → map f (first_sorts (s + 1)) ≡ map f (first_sorts s) ++ f (sort_number s) ∷ []
map_sorts-more f s = ap (map f) (map-range_with_len_more sort_number 0 s s (omega arith)) ∙ map-append f (first_sorts s) (sort_number s ∷ [])

-- a test of all sorts from q on
pub all_from-true : (p : SortId → Bool) (q n : ℕ) → q < n → p (sort_number q) ≡ true → list_all p (map sort_number (range_with_len q (n - q))) ≡ list_all p (map sort_number (range_with_len (q + 1) (n - (q + 1))))
all_from-true p q n l e =
    ap (λ xs. list_all p (map sort_number xs)) (range_from q n l) ∙ ap (λ b. b && list_all p (map sort_number (range_with_len (q + 1) (n - (q + 1))))) e

pub map_sorts-at : {A : Type 0} (f : SortId → A) (n k : ℕ) (d : A) → k < n → get_or (map f (first_sorts n)) k d ≡ f (sort_number k)
map_sorts-at f n k d l =
    let long : length (first_sorts n) ≡ n = length-map-range_with_len sort_number 0 n in
    let within : k < length (first_sorts n) = omega arith in
    get_or-map f (first_sorts n) k (sort_number 0) d within ∙ ap f (get_or-map-range_with_len sort_number 0 n k k (sort_number 0) l (omega arith))

pub map_sorts-length : {A : Type 0} (f : SortId → A) (n : ℕ) → length (map f (first_sorts n)) ≡ n
map_sorts-length f n = length-map (first_sorts n) f ∙ length-map-range_with_len sort_number 0 n

pub contains_first_sorts : (n : ℕ) (s : SortId) → s.0 < n → Contains (first_sorts n) s
contains_first_sorts n s l = (s.0, let long = length-map-range_with_len sort_number 0 n in omega arith, get_or-map-range_with_len sort_number 0 n s.0 s.0 s l (omega arith))

pub first_sorts_contains : (n : ℕ) (s : SortId) → Contains (first_sorts n) s → s.0 < n
first_sorts_contains n s h =
    let long : length (first_sorts n) ≡ n = length-map-range_with_len sort_number 0 n in
    let listed : h.0 < length (first_sorts n) = h.1 in
    let within : h.0 < n = omega arith in
    let is : s.0 ≡ h.0 = ap (λ (z : SortId). z.0) (sym h.2 ∙ get_or-map-range_with_len sort_number 0 n h.0 h.0 s within (omega arith)) in
    omega arith
