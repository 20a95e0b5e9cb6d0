-- Places in lists, and pairs of elements of mapped lists.
use Rattle.std.proofs.Common.{◌≡◌, ◌≢◌, ℕ, zero, suc, ◌<◌, List, [], ◌∷◌, length, get_or, Some, refl, subst, map, arith}
use Rattle.std.specs.Prelude.{AllPairs, Contains, slice_get}
use Rattle.std.proofs.lemmas.List.Elements.{Contains-get_or}
use Rattle.fvn_base.proofs.Membership.{contains_here, contains_later, map_contains}
use Rattle.fvn_base.proofs.Pigeonhole.{AllPairs-tail, AllPairs-first}

-- what is given once
pub some-once : {A : Type 0} {x y : A} → Some x ≡ Some y → x ≡ y
some-once e = cc

-- what a place holds
pub got-some : {A : Type 0} (xs : List A) (i : ℕ) (x : A) → i < length xs → slice_get xs i ≡ Some (get_or xs i x)
got-some [] i x l = absurd (omega (arith, l))
got-some (y ∷ xs) zero x l = refl
got-some (y ∷ xs) (suc i) x l = got-some xs i x (omega (arith, l))

module _ {A : Type 0} (R : A → A → Type 0) where
  pairs-cons : (x : A) (xs : List A) → ((y : A) → Contains xs y → R x y) → AllPairs R xs → AllPairs R (x ∷ xs)
  pairs-cons x xs n h i zero d l m = absurd (omega (arith, l))
  pairs-cons x xs n h zero (suc j) d l m =
      let b : j < length xs = omega (arith, m) in
      n (get_or xs j d) (Contains-get_or xs j d b)
  pairs-cons x xs n h (suc i) (suc j) d l m = h i j d (omega (arith, l)) (omega (arith, m))

-- what holds of the images of different elements holds of each two images
pub pairs-map : {A B : Type 0} (R : B → B → Type 0) (f : A → B) (xs : List A) → ((x y : A) → Contains xs x → Contains xs y → x ≢ y → R (f x) (f y)) →
    AllPairs (λ x y. x ≢ y) xs → AllPairs R (map f xs)
pairs-map R f [] h d = λ i j e l m. absurd (omega (arith, m))
pairs-map R f (x ∷ xs) h d =
    pairs-cons R (f x) (map f xs)
    (λ y c.
    let m = map_contains f xs y c in
    subst (R (f x)) m.1.1 (h x m.0 (contains_here x xs) (contains_later x xs m.0 m.1.0) (AllPairs-first ◌≢◌ x xs m.0 d m.1.0)))
    (pairs-map R f xs (λ y z a b. h y z (contains_later x xs y a) (contains_later x xs z b)) (AllPairs-tail ◌≢◌ x xs d))
