-- Lists of which two members are taken, by their places.
use Rattle.std.proofs.Common.{◌≡◌, ◌<◌, ◌+◌, ◌-◌, ℕ, zero, suc, List, [], ◌∷◌, ◌++◌, take, drop, length, Some, refl, ap, ◌∙◌, subst, arith}
use Rattle.std.specs.Prelude.{slice_get}
use Rattle.std.proofs.lemmas.List.{append_assoc, take_rest}
use Rattle.fvn_forms.specs.Flat.{FlatTerm}
use Rattle.fvn_flat.specs.FlatPlaces.{IsDivided, divided, taking, leaving}

leave_all : (ts : List FlatTerm) → IsDivided ts [] ts
leave_all [] = divided
leave_all (t ∷ ts) = leaving (leave_all ts)

one_at : (ts : List FlatTerm) (n : ℕ) (u : FlatTerm) → slice_get ts n ≡ Some u → IsDivided ts (u ∷ []) (take n ts ++ drop (suc n) ts)
one_at [] n u e = cc
one_at (w ∷ ts) zero u e = let q : w ≡ u = cc in subst (λ z. IsDivided (w ∷ ts) (z ∷ []) ts) q (taking (leave_all ts))
one_at (w ∷ ts) (suc n) u e = leaving (one_at ts n u e)

two_at : (ts : List FlatTerm) (i n : ℕ) (t u : FlatTerm) → slice_get ts i ≡ Some t → slice_get (drop (suc i) ts) n ≡ Some u → IsDivided ts (t ∷ u ∷ []) (take i ts ++ (take n (drop (suc i) ts) ++ drop (suc n) (drop (suc i) ts)))
two_at [] i n t u e g = cc
two_at (w ∷ ts) zero n t u e g = let q : w ≡ t = cc in subst (λ z. IsDivided (w ∷ ts) (z ∷ u ∷ []) (take n ts ++ drop (suc n) ts)) q (taking (one_at ts n u g))
two_at (w ∷ ts) (suc i) n t u e g = leaving (two_at ts i n t u e g)

-- a place behind another one, in what is left behind that
behind : (ts : List FlatTerm) (i j : ℕ) → i < j → (n : ℕ) × ((j ≡ suc (i + n)) × (slice_get (drop (suc i) ts) n ≡ slice_get ts j))
behind [] zero zero l = absurd (omega (arith, l))
behind [] zero (suc j) l = (j, (omega arith, refl))
behind [] (suc i) zero l = absurd (omega (arith, l))
behind [] (suc i) (suc j) l = let r = behind [] i j (omega (arith, l)) in let e = r.1.0 in (r.0, (omega (arith, e), refl))
behind (w ∷ ts) zero zero l = absurd (omega (arith, l))
behind (w ∷ ts) zero (suc j) l = (j, (omega arith, refl))
behind (w ∷ ts) (suc i) zero l = absurd (omega (arith, l))
behind (w ∷ ts) (suc i) (suc j) l = let r = behind ts i j (omega (arith, l)) in let e = r.1.0 in (r.0, (omega (arith, e), r.1.1))

drop_twice : (ts : List FlatTerm) (i n : ℕ) → drop (suc n) (drop (suc i) ts) ≡ drop (suc (suc (i + n))) ts
drop_twice [] zero n = refl
drop_twice [] (suc i) n = refl
drop_twice (w ∷ ts) zero n = let e : suc n ≡ suc (zero + n) = omega arith in ap (λ k. drop k ts) e
drop_twice (w ∷ ts) (suc i) n = let e : suc (suc (i + n)) ≡ suc (suc i + n) = omega arith in drop_twice ts i n ∙ ap (λ k. drop k ts) e

-- two members and all others
pub divided_at : (ts : List FlatTerm) (i j : ℕ) → i < j → (t u : FlatTerm) → slice_get ts i ≡ Some t → slice_get ts j ≡ Some u →
    IsDivided ts (t ∷ u ∷ []) (take i ts ++ (take (j - (i + 1)) (drop (i + 1) ts) ++ drop (j + 1) ts))
divided_at ts i j l t u e g =
    let r = behind ts i j l in
    let at = r.1.0 in
    let one : suc i ≡ i + 1 = omega arith in
    let count : r.0 ≡ j - (i + 1) = omega (arith, at) in
    let last : suc (suc (i + r.0)) ≡ j + 1 = omega (arith, at) in
    subst (λ k. IsDivided ts (t ∷ u ∷ []) (take i ts ++ (take (j - (i + 1)) (drop k ts) ++ drop (j + 1) ts))) one
    (subst (λ k. IsDivided ts (t ∷ u ∷ []) (take i ts ++ (take k (drop (suc i) ts) ++ drop (j + 1) ts))) count
    (subst (λ k. IsDivided ts (t ∷ u ∷ []) (take i ts ++ (take r.0 (drop (suc i) ts) ++ drop k ts))) last
    (subst (λ m. IsDivided ts (t ∷ u ∷ []) (take i ts ++ (take r.0 (drop (suc i) ts) ++ m))) (drop_twice ts i r.0)
    (two_at ts i r.0 t u e (r.1.1 ∙ g)))))

-- what was copied behind one another is what is left without the two
pub others_are : (ts : List FlatTerm) (i j : ℕ) (new first second all : List FlatTerm) → new ≡ [] → first ≡ new ++ take i ts → second ≡ first ++ take (j - (i + 1)) (drop (i + 1) ts) → all ≡ second ++ take (length ts - (j + 1)) (drop (j + 1) ts) →
    all ≡ take i ts ++ (take (j - (i + 1)) (drop (i + 1) ts) ++ drop (j + 1) ts)
others_are ts i j new first second all e1 e2 e3 e4 =
    let middle = take (j - (i + 1)) (drop (i + 1) ts) in
    let last = take (length ts - (j + 1)) (drop (j + 1) ts) in
    e4
    ∙ ap (λ l. l ++ last) (e3 ∙ ap (λ l. l ++ middle) (e2 ∙ ap (λ l. l ++ take i ts) e1))
    ∙ append_assoc (take i ts) middle last
    ∙ ap (λ m. take i ts ++ (middle ++ m)) (take_rest ts (j + 1))

-- where the members that are taken stand
record StandsAt (ts : List FlatTerm) (u : FlatTerm) : Type 0 where
  place : ℕ
  is : slice_get ts place ≡ Some u

place_of_one : {ts others : List FlatTerm} {u : FlatTerm} → IsDivided ts (u ∷ []) others → StandsAt ts u
place_of_one (taking p) = record { place = zero; is = refl }
place_of_one (leaving p) = let r = place_of_one p in record { place = suc r.place; is = r.is }

pub record StandAt (ts : List FlatTerm) (t u : FlatTerm) : Type 0 where
  pub i : ℕ
  pub j : ℕ
  pub before : i < j
  pub first : slice_get ts i ≡ Some t
  pub second : slice_get ts j ≡ Some u

pub places_of_two : {ts others : List FlatTerm} {t u : FlatTerm} → IsDivided ts (t ∷ u ∷ []) others → StandAt ts t u
places_of_two (taking p) = let r = place_of_one p in record { i = zero; j = suc r.place; before = omega arith; first = refl; second = r.is }
places_of_two (leaving p) = let r = places_of_two p in let l = r.before in record { i = suc r.i; j = suc r.j; before = omega (arith, l); first = r.first; second = r.second }
