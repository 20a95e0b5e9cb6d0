-- Vectors beside units, and lists that become more by what points make.
use Rattle.std.proofs.Common.{ℤ, to_z, of_z, w64, FitsSigned, ◌≡◌, ℕ, zero, suc, ◌+◌, ◌<◌, ◌≤◌, ◌⊎◌, ◌↔◌, pos, List, [], ◌∷◌, ◌++◌, length, get_or, take, sum, refl, sym, ap, ◌∙◌, subst, inl, inr, arith}
use Rattle.std.specs.List.{AllPairs, Contains}
use Rattle.std.proofs.lemmas.List.{take_more, take_all}
use Rattle.std.proofs.lemmas.List.Elements.{All-contains, Contains-get_or}
use Rattle.std.proofs.lemmas.Bool.{cases_lt}
use Rattle.std.proofs.lemmas.Int.{to_z-of_z}
use Rattle.fvn_base.specs.Order.{IsBefore}
use Rattle.fvn_lindio.specs.Vectors.{IsAtOrBelow, add}
use Rattle.fvn_lindio.specs.Systems.{above, below}
use Rattle.fvn_lindio.specs.inner.Least.{GrowsBy, IsOrderedOf}
use Rattle.fvn_lindio.specs.inner.Paired.{AnyOf, IsFrom, IsSum}
use Rattle.fvn_lindio.specs.declared.level.Point.{Point}
use Rattle.fvn_lindio.proofs.VectorLemmas.{sum-cons, length-add, below_length}
use Rattle.fvn_lindio.proofs.LevelLemmas.{in_none, pushed_old, pushed_new, pushed_cases}

-- ---- vectors

pub add_comm : (x y : List ℕ) → length x ≡ length y → add x y ≡ add y x
add_comm [] [] h = refl
add_comm [] (b ∷ y) h = absurd (omega arith)
add_comm (a ∷ x) [] h = absurd (omega arith)
add_comm (a ∷ x) (b ∷ y) h =
    let e : length x ≡ length y = omega arith in
    let s : a + b ≡ b + a = omega arith in
    let r : add x y ≡ add y x = add_comm x y e in
    cc

-- what is added on the left of both may go
pub below_cancel : (a u z : List ℕ) → length a ≡ length u → length a ≡ length z → IsAtOrBelow (add a u) (add a z) → IsAtOrBelow u z
below_cancel [] [] [] e f k = tt
below_cancel [] [] (c ∷ z) e f k = absurd (omega arith)
below_cancel [] (d ∷ u) z e f k = absurd (omega arith)
below_cancel (b ∷ a) [] z e f k = absurd (omega arith)
below_cancel (b ∷ a) (d ∷ u) [] e f k = absurd (omega arith)
below_cancel (b ∷ a) (d ∷ u) (c ∷ z) e f k =
    let l : length a ≡ length u = omega arith in
    let m : length a ≡ length z = omega arith in
    (omega (arith, k.0), below_cancel a u z l m k.1)

-- a vector that sums to zero is below all, and adds nothing
zero_under : (u z : List ℕ) → sum u ≡ 0 → length u ≡ length z → IsAtOrBelow u z
zero_under [] [] h e = tt
zero_under [] (b ∷ z) h e = absurd (omega arith)
zero_under (a ∷ u) [] h e = absurd (omega arith)
zero_under (a ∷ u) (b ∷ z) h e =
    let s : sum u ≡ 0 = omega (arith, sum-cons a u) in
    let l : length u ≡ length z = omega arith in
    (omega (arith, sum-cons a u), zero_under u z s l)

zero_rest : (a u z : List ℕ) → sum u ≡ 0 → length a ≡ length u → IsAtOrBelow z (add a u) → IsAtOrBelow z a
zero_rest [] u [] h e k = tt
zero_rest [] u (c ∷ z) h e k = absurd k
zero_rest (b ∷ a) [] z h e k = absurd (omega arith)
zero_rest (b ∷ a) (d ∷ u) [] h e k = absurd k
zero_rest (b ∷ a) (d ∷ u) (c ∷ z) h e k =
    let s : sum u ≡ 0 = omega (arith, sum-cons d u) in
    let l : length a ≡ length u = omega arith in
    (omega (arith, k.0, sum-cons d u), zero_rest a u z s l k.1)

unit_head : (b c d : ℕ) → d ≡ 0 → (suc d ≤ c → ⊥) → c ≤ b
unit_head b c d e n = go (cases_lt 0 c)
  where
    go : (0 < c) ⊎ (c ≤ 0) → c ≤ b
    go (inl p) = absurd (n (omega (arith, p)))
    go (inr p) = omega (arith, p)

-- what is at or below a sum with a unit, and not above the unit, is at or below the other vector
pub unit_rest : (a u z : List ℕ) → sum u ≡ 1 → length a ≡ length u → (IsAtOrBelow u z → ⊥) → IsAtOrBelow z (add a u) → IsAtOrBelow z a
unit_rest [] [] z h e n k = absurd (omega arith)
unit_rest [] (d ∷ u) z h e n k = absurd (omega arith)
unit_rest (b ∷ a) [] z h e n k = absurd (omega arith)
unit_rest (b ∷ a) (d ∷ u) [] h e n k = absurd k
unit_rest (b ∷ a) (zero ∷ u) (c ∷ z) h e n k =
    let s : sum u ≡ 1 = omega (arith, sum-cons 0 u) in
    let l : length a ≡ length u = omega arith in
    (omega (arith, k.0), unit_rest a u z s l (λ m. n (omega arith, m)) k.1)
unit_rest (b ∷ a) (suc d ∷ u) (c ∷ z) h e n k =
    let s : sum u ≡ 0 = omega (arith, sum-cons (suc d) u) in
    let t : d ≡ 0 = omega (arith, sum-cons (suc d) u) in
    let l : length a ≡ length u = omega arith in
    let r : length u ≡ length z = omega (arith, below_length z (add a u) k.1, length-add a u l) in
    (unit_head b c d t (λ m. n (m, zero_under u z s r)), zero_rest a u z s l k.1)

-- ---- lists

pub grows_never : (P : List ℕ → Type 0) (xs : List (List ℕ)) → ((w : List ℕ) → P w → ⊥) → GrowsBy P xs xs
grows_never P xs never w = (λ m. inl m, from)
  where
    from : Contains xs w ⊎ P w → Contains xs w
    from (inl m) = m
    from (inr p) = absurd (never w p)

pub grows_as : (P Q : List ℕ → Type 0) (xs ys : List (List ℕ)) → ((w : List ℕ) → P w → Q w) → ((w : List ℕ) → Q w → P w) → GrowsBy P xs ys → GrowsBy Q xs ys
grows_as P Q xs ys to back g w = (λ m. there ((g w).0 m), λ m. (g w).1 (here m))
  where
    there : Contains xs w ⊎ P w → Contains xs w ⊎ Q w
    there (inl m) = inl m
    there (inr p) = inr (to w p)

    here : Contains xs w ⊎ Q w → Contains xs w ⊎ P w
    here (inl m) = inl m
    here (inr q) = inr (back w q)

pub ordered_more : (n : ℕ) (P : List ℕ → Type 0) (xs ys : List (List ℕ)) → ((w : List ℕ) → P w → length w ≡ n) → IsOrderedOf n xs → AllPairs IsBefore ys → GrowsBy P xs ys → IsOrderedOf n ys
ordered_more n P xs ys size h o g = record { sized = λ k d l. at (get_or ys k d) ((g (get_or ys k d)).0 (Contains-get_or ys k d l)); ordered = o }
  where
    at : (w : List ℕ) → Contains xs w ⊎ P w → length w ≡ n
    at w (inl m) = All-contains (λ v. length v ≡ n) xs w h.sized m
    at w (inr p) = size w p

module _ (P : Point → List ℕ → Type 0) (points : List Point) where
  -- no point makes anything yet
  pub any_none : (xs : List (List ℕ)) → GrowsBy (AnyOf P (take 0 points)) xs xs
  any_none xs = grows_never (AnyOf P (take 0 points)) xs (λ w h. in_none (take 0 points) h.0 refl h.1)

  -- what one point more makes
  pub any_more : (i : ℕ) (p : Point) (xs ys zs : List (List ℕ)) → i < length points → p ≡ get_or points i p → GrowsBy (AnyOf P (take i points)) xs ys → GrowsBy (P p) ys zs → GrowsBy (AnyOf P (take (i + 1) points)) xs zs
  any_more i p xs ys zs l e g h w = (λ m. from ((h w).0 m), λ m. (h w).1 (into m))
    where
      grown : take (i + 1) points ≡ take i points ++ (p ∷ [])
      grown = take_more points i p l ∙ ap (λ z. take i points ++ (z ∷ [])) (sym e)

      earlier : Contains xs w ⊎ AnyOf P (take i points) w → Contains xs w ⊎ AnyOf P (take (i + 1) points) w
      earlier (inl m) = inl m
      earlier (inr q) = inr (q.0, pushed_old (take i points) (take (i + 1) points) p q.0 grown q.1, q.2)

      from : Contains ys w ⊎ P p w → Contains xs w ⊎ AnyOf P (take (i + 1) points) w
      from (inl m) = earlier ((g w).0 m)
      from (inr q) = inr (p, pushed_new (take i points) (take (i + 1) points) p grown, q)

      into : Contains xs w ⊎ AnyOf P (take (i + 1) points) w → Contains ys w ⊎ P p w
      into (inl m) = inl ((g w).1 (inl m))
      into (inr q) = split (pushed_cases (take i points) (take (i + 1) points) p q.0 grown q.1)
        where
          split : Contains (take i points) q.0 ⊎ (p ≡ q.0) → Contains ys w ⊎ P p w
          split (inl m) = inl ((g w).1 (inr (q.0, m, q.2)))
          split (inr f) = inr (subst (λ r. P r w) (sym f) q.2)

  -- what all of them make
  pub any_all : (i : ℕ) (xs ys : List (List ℕ)) → length points ≤ i → GrowsBy (AnyOf P (take i points)) xs ys → GrowsBy (AnyOf P points) xs ys
  any_all i xs ys l g = subst (λ ps. GrowsBy (AnyOf P ps) xs ys) (take_all i points l) g

-- a list that was empty has what made it more
pub grown_alone : (P : List ℕ → Type 0) (xs ys : List (List ℕ)) → xs ≡ [] → GrowsBy P xs ys → (w : List ℕ) → Contains ys w ↔ P w
grown_alone P xs ys e g w = (λ m. from ((g w).0 m), λ p. (g w).1 (inr p))
  where
    from : Contains xs w ⊎ P w → P w
    from (inl m) = absurd (in_none xs w e m)
    from (inr p) = p

pub empty_ordered : (n : ℕ) → IsOrderedOf n []
empty_ordered n = record { sized = λ k d l. absurd (omega (arith, l)); ordered = λ i j d l m. absurd (omega (arith, m)) }

-- a point at zero makes itself alone
pub from_zero : (points : List Point) (x : Point) (xs ys : List (List ℕ)) → x.value ≡ pos 0 → GrowsBy (λ w. x.parts.items ≡ w) xs ys → GrowsBy (IsFrom points x) xs ys
from_zero points x xs ys e = grows_as (λ w. x.parts.items ≡ w) (IsFrom points x) xs ys (λ w p. inl (e, p)) back
  where
    back : (w : List ℕ) → IsFrom points x w → x.parts.items ≡ w
    back w (inl p) = p.1
    back w (inr (u, m, (s, p))) = let b : below x.value ≡ 0 = ap below e in absurd (omega (arith, b, s.0))

-- another one makes sums alone
pub from_sums : (points : List Point) (x : Point) (xs ys : List (List ℕ)) → (x.value ≡ pos 0 → ⊥) → GrowsBy (AnyOf (IsSum x) points) xs ys → GrowsBy (IsFrom points x) xs ys
from_sums points x xs ys n = grows_as (AnyOf (IsSum x) points) (IsFrom points x) xs ys (λ w s. inr s) back
  where
    back : (w : List ℕ) → IsFrom points x w → AnyOf (IsSum x) points w
    back w (inl p) = absurd (n p.0)
    back w (inr s) = s

-- a list without a vector is the first of a loop, and the last has what all points make
pub all_from : (points : List Point) (i : ℕ) (ys : List (List ℕ)) → length points ≤ i → GrowsBy (AnyOf (IsFrom points) (take i points)) [] ys → (w : List ℕ) → Contains ys w ↔ AnyOf (IsFrom points) points w
all_from points i ys l g = grown_alone (AnyOf (IsFrom points) points) [] ys refl (any_all (IsFrom points) points i [] ys l g)

-- a list with a sum more
pub grown_by_sum : (x u : Point) (xs ys : List (List ℕ)) (v : List ℕ) → v ≡ add x.parts.items u.parts.items → (0 < below x.value) × (0 < above u.value) → ((w : List ℕ) → Contains ys w ↔ Contains xs w ⊎ (v ≡ w)) → GrowsBy (IsSum x u) xs ys
grown_by_sum x u xs ys v e signs = grows_as (λ w. v ≡ w) (IsSum x u) xs ys (λ w p. (signs, sym e ∙ p)) (λ w s. e ∙ s.1)

-- a list with a point's vector more
pub grown_by_point : (x : Point) (xs ys : List (List ℕ)) (v : List ℕ) → v ≡ x.parts.items → ((w : List ℕ) → Contains ys w ↔ Contains xs w ⊎ (v ≡ w)) → GrowsBy (λ w. x.parts.items ≡ w) xs ys
grown_by_point x xs ys v e = grows_as (λ w. v ≡ w) (λ w. x.parts.items ≡ w) xs ys (λ w p. sym e ∙ p) (λ w p. e ∙ p)

-- signs as the code reads them
pub signs_read : (a b : ℤ) → FitsSigned w64 a → FitsSigned w64 b → (0 < below (to_z w64 (of_z w64 a))) × (0 < above (to_z w64 (of_z w64 b))) → (0 < below a) × (0 < above b)
signs_read a b f g h = (subst (λ (z : ℤ). 0 < below z) (to_z-of_z w64 a f) h.0, subst (λ (z : ℤ). 0 < above z) (to_z-of_z w64 b g) h.1)
