-- Lists of solutions in lexicographic order, and one more at its place.
use Rattle.std.proofs.Common.{◌≡◌, ℕ, ◌+◌, ◌-◌, ◌<◌, ◌≤◌, ◌⊎◌, ◌↔◌, List, [], ◌∷◌, ◌++◌, length, get_or, take, drop, map, sym, ap, ◌∙◌, subst, inl, inr, arith}
use Rattle.std.specs.Prelude.{Bool, false, IsTrue}
use Rattle.std.specs.List.{All, AllPairs, Contains, insert}
use Rattle.std.proofs.lemmas.List.{get_or_default, get_or-map, map-append, take-map, drop-map, take_all, length-map}
use Rattle.std.proofs.lemmas.List.Elements.{Contains-get_or}
use Rattle.std.proofs.lemmas.List.Edits.{length-insert, get_or-insert_below, get_or-insert_at, get_or-insert_above}
use Rattle.std.proofs.lemmas.Bool.{cases_lt, cases_order}
use Rattle.fvn_base.specs.Order.{IsBefore}
use Rattle.fvn_base.proofs.Order.{before_else, before_trans}
use Rattle.fvn_base.proofs.MappedLists.{mapped_member_old, mapped_member_new, mapped_member_cases}
use Rattle.fvn_lindio.specs.declared.system.Solution.{Solution}
use Rattle.fvn_lindio.specs.Systems.{vectors_of}
use Rattle.fvn_combine_candidates.specs.inner.Placed.{IsPlace, StandsAt, GrowsBy, IsOrderedOf}

module _ (xs : List (List ℕ)) (i : ℕ) (v : List ℕ) (within : i ≤ length xs) where
  put_below : (k : ℕ) (d : List ℕ) → k < i → get_or (insert xs i v) k d ≡ get_or xs k d
  put_below k d l = get_or-insert_below xs i v d k l within

  put_at : (k : ℕ) (d : List ℕ) → k ≡ i → get_or (insert xs i v) k d ≡ v
  put_at k d e = subst (λ j. get_or (insert xs i v) j d ≡ v) (sym e) (get_or-insert_at xs i v d within)

  put_above : (k : ℕ) (d : List ℕ) → i < k → get_or (insert xs i v) k d ≡ get_or xs (k - 1) d
  put_above k d l =
      let e : k - 1 + 1 ≡ k = omega arith in
      subst (λ j. get_or (insert xs i v) j d ≡ get_or xs (k - 1) d) e (get_or-insert_above xs i v d (k - 1) (omega arith) within)

  module _ (ordered : AllPairs IsBefore xs) (earlier : (k : ℕ) (d : List ℕ) → k < i → IsBefore (get_or xs k d) v) (later : (d : List ℕ) → i < length xs → IsBefore v (get_or xs i d)) where
    -- v stands before all from its place on
    all_later : (k : ℕ) (d : List ℕ) → i ≤ k → k < length xs → IsBefore v (get_or xs k d)
    all_later k d l m = go (cases_lt i k)
      where
        go : (i < k) ⊎ (k ≤ i) → IsBefore v (get_or xs k d)
        go (inl n) = before_trans v (get_or xs i d) (get_or xs k d) (later d (omega arith)) (ordered i k d n m)
        go (inr n) =
            let e : i ≡ k = omega arith in
            subst (λ j. IsBefore v (get_or xs j d)) e (later d (omega arith))

    pub AllPairs-put : AllPairs IsBefore (insert xs i v)
    AllPairs-put p q d l m = go (cases_order p i) (cases_order q i)
      where
        bound : q < length xs + 1
        bound = omega (arith, m, length-insert xs i v within)

        two : (x y : List ℕ) → get_or (insert xs i v) p d ≡ x → get_or (insert xs i v) q d ≡ y → IsBefore x y → IsBefore (get_or (insert xs i v) p d) (get_or (insert xs i v) q d)
        two x y e f h = subst (λ z. IsBefore z (get_or (insert xs i v) q d)) (sym e) (subst (IsBefore x) (sym f) h)

        go : (p ≡ i) ⊎ ((p < i) ⊎ (i < p)) → (q ≡ i) ⊎ ((q < i) ⊎ (i < q)) → IsBefore (get_or (insert xs i v) p d) (get_or (insert xs i v) q d)
        go (inr (inl a)) (inr (inl b)) = two (get_or xs p d) (get_or xs q d) (put_below p d a) (put_below q d b) (ordered p q d l (omega arith))
        go (inr (inl a)) (inl b) = two (get_or xs p d) v (put_below p d a) (put_at q d b) (earlier p d a)
        go (inr (inl a)) (inr (inr b)) = two (get_or xs p d) (get_or xs (q - 1) d) (put_below p d a) (put_above q d b) (ordered p (q - 1) d (omega arith) (omega (arith, bound)))
        go (inl a) (inr (inr b)) = two v (get_or xs (q - 1) d) (put_at p d a) (put_above q d b) (all_later (q - 1) d (omega arith) (omega (arith, bound)))
        go (inl a) (inl b) = absurd (omega arith)
        go (inl a) (inr (inl b)) = absurd (omega arith)
        go (inr (inr a)) (inr (inr b)) = two (get_or xs (p - 1) d) (get_or xs (q - 1) d) (put_above p d a) (put_above q d b) (ordered (p - 1) (q - 1) d (omega arith) (omega (arith, bound)))
        go (inr (inr a)) (inl b) = absurd (omega arith)
        go (inr (inr a)) (inr (inl b)) = absurd (omega arith)

  pub Contains-put : (w : List ℕ) → Contains (insert xs i v) w ↔ Contains xs w ⊎ (v ≡ w)
  Contains-put w = (from, into)
    where
      from : Contains (insert xs i v) w → Contains xs w ⊎ (v ≡ w)
      from (k, l, e) = go (cases_order k i)
        where
          bound : k < length xs + 1
          bound = omega (arith, l, length-insert xs i v within)

          go : (k ≡ i) ⊎ ((k < i) ⊎ (i < k)) → Contains xs w ⊎ (v ≡ w)
          go (inl a) = inr (sym (put_at k w a) ∙ e)
          go (inr (inl a)) = inl (k, omega arith, sym (put_below k w a) ∙ e)
          go (inr (inr a)) = inl (k - 1, omega (arith, bound), sym (put_above k w a) ∙ e)

      into : Contains xs w ⊎ (v ≡ w) → Contains (insert xs i v) w
      into (inr e) = (i, omega (arith, length-insert xs i v within), get_or-insert_at xs i v w within ∙ e)
      into (inl (k, l, e)) = go (cases_lt k i)
        where
          go : (k < i) ⊎ (i ≤ k) → Contains (insert xs i v) w
          go (inl a) = (k, omega (arith, length-insert xs i v within), put_below k w a ∙ e)
          go (inr a) = (k + 1, omega (arith, length-insert xs i v within), get_or-insert_above xs i v w k a within ∙ e)

pub vectors-insert : (list : List Solution) (i : ℕ) (v : Solution) → vectors_of (insert list i v) ≡ insert (vectors_of list) i v.parts
vectors-insert list i v =
    map-append (λ w. w.parts) (take i list) (v ∷ drop i list)
    ∙ (ap (λ z. z ++ (v.parts ∷ map (λ w. w.parts) (drop i list))) (sym (take-map (λ w. w.parts) i list))
    ∙ ap (λ z. take i (vectors_of list) ++ (v.parts ∷ z)) (sym (drop-map (λ w. w.parts) i list)))

-- the vector at a place
pub vector_at : (list : List Solution) (i : ℕ) (x : Solution) (d : List ℕ) → i < length list → x ≡ get_or list i x → get_or (vectors_of list) i d ≡ x.parts
vector_at list i x d l e = get_or-map (λ w. w.parts) list i x d l ∙ ap (λ w. w.parts) (sym e)

-- the place behind the last vector that stands before
pub place_after : (xs : List (List ℕ)) (v : List ℕ) (i : ℕ) → AllPairs IsBefore xs → i < length xs → ((d : List ℕ) → IsBefore (get_or xs i d) v) → ((d : List ℕ) → i + 1 < length xs → IsBefore (get_or xs (i + 1) d) v → ⊥) → IsPlace xs v (i + 1)
place_after xs v i ordered l here next = record { within = omega (arith, l); earlier = λ k d m. go k d m (cases_lt k i); here = next }
  where
    go : (k : ℕ) (d : List ℕ) → k < i + 1 → (k < i) ⊎ (i ≤ k) → IsBefore (get_or xs k d) v
    go k d m (inl a) = before_trans (get_or xs k d) (get_or xs i d) v (ordered k i d a l) (here d)
    go k d m (inr a) =
        let e : i ≡ k = omega (arith, m, a) in
        subst (λ j. IsBefore (get_or xs j d) v) e (here d)

-- the first place, where none stands before
pub no_place : (xs : List (List ℕ)) (v : List ℕ) (n i : ℕ) → n ≤ i → length xs ≡ n → ((d : List ℕ) → 0 < i → IsBefore (get_or xs (n - i) d) v → ⊥) → IsPlace xs v 0
no_place xs v n i l e none = record { within = omega arith; earlier = λ k d m. absurd (omega (arith, m)); here = λ d m h. let z : 0 ≡ n - i = omega (arith, l) in none d (omega (arith, m, e, l)) (subst (λ k. IsBefore (get_or xs k d) v) z h) }

-- after an insert at the place of a vector that is not there
module _ (list new : List Solution) (v : Solution) (place : ℕ) (is : new ≡ insert list place v) (sized : All (λ w. length w ≡ length v.parts) (vectors_of list)) (ordered : AllPairs IsBefore (vectors_of list))
    (placed : IsPlace (vectors_of list) v.parts place) (fresh : StandsAt (vectors_of list) place v.parts → ⊥) where
  same : vectors_of new ≡ insert (vectors_of list) place v.parts
  same = ap vectors_of is ∙ vectors-insert list place v

  later : (d : List ℕ) → place < length (vectors_of list) → IsBefore v.parts (get_or (vectors_of list) place d)
  later d l =
      before_else (get_or (vectors_of list) place d) v.parts (sized place d l) (placed.here d l)
      (λ e. fresh (l, get_or_default (vectors_of list) place v.parts d l ∙ e))

  pub insert_ordered : AllPairs IsBefore (vectors_of new)
  insert_ordered = subst (AllPairs IsBefore) (sym same) (AllPairs-put (vectors_of list) place v.parts placed.within ordered placed.earlier later)

  pub insert_exact : (w : List ℕ) → Contains (vectors_of new) w ↔ Contains (vectors_of list) w ⊎ (v.parts ≡ w)
  insert_exact w = subst (λ xs. Contains xs w ↔ Contains (vectors_of list) w ⊎ (v.parts ≡ w)) (sym same) (Contains-put (vectors_of list) place v.parts placed.within w)

-- a vector that stands there already
pub insert_there : (xs : List (List ℕ)) (v : List ℕ) (place : ℕ) → StandsAt xs place v → (w : List ℕ) → Contains xs w ↔ Contains xs w ⊎ (v ≡ w)
insert_there xs v place h w = (λ m. inl m, into)
  where
    into : Contains xs w ⊎ (v ≡ w) → Contains xs w
    into (inl m) = m
    into (inr e) = subst (Contains xs) e (place, h.0, h.1)

pub not_false : {P : Type 0} (b : Bool) → b ≡ false → (P → IsTrue b) → P → ⊥
not_false b e h p = let k : IsTrue b = h p in cc

-- a list with more vectors of the same length is in order
pub ordered_more : (n : ℕ) (P : List ℕ → Type 0) (xs ys : List (List ℕ)) → ((w : List ℕ) → P w → length w ≡ n) → IsOrderedOf n xs → AllPairs IsBefore ys → GrowsBy P xs ys → IsOrderedOf n ys
ordered_more n P xs ys size h o g = record { sized = λ k d l. at (get_or ys k d) ((g (get_or ys k d)).0 (Contains-get_or ys k d l)); ordered = o }
  where
    at : (w : List ℕ) → Contains xs w ⊎ P w → length w ≡ n
    at w (inl (k, l, e)) = ap length (sym e) ∙ h.sized k w l
    at w (inr p) = size w p

-- ---- several solutions put in

pub size_at : (n : ℕ) (more : List Solution) (i : ℕ) (x : Solution) → i < length more → x ≡ get_or more i x → All (λ v. length v ≡ n) (vectors_of more) → length x.parts ≡ n
size_at n more i x l is h =
    let long = length-map more (λ (w : Solution). w.parts) in
    sym (ap length (vector_at more i x [] l is)) ∙ h i [] (omega (arith, l, long))

pub put_none : (list more : List Solution) → GrowsBy (Contains (vectors_of (take 0 more))) (vectors_of list) (vectors_of list)
put_none list more w = (λ m. inl m, from)
  where
    from : Contains (vectors_of list) w ⊎ Contains (vectors_of (take 0 more)) w → Contains (vectors_of list) w
    from (inl m) = m
    from (inr (k, l, e)) = absurd (omega (arith, l))

pub put_more : (more : List Solution) (i : ℕ) (x : Solution) (old list new : List Solution) → i < length more → x ≡ get_or more i x
    → GrowsBy (Contains (vectors_of (take i more))) (vectors_of old) (vectors_of list) → GrowsBy (λ w. x.parts ≡ w) (vectors_of list) (vectors_of new)
    → GrowsBy (Contains (vectors_of (take (i + 1) more))) (vectors_of old) (vectors_of new)
put_more more i x old list new l is h k w = (λ m. from ((k w).0 m), into)
  where
    from : Contains (vectors_of list) w ⊎ (x.parts ≡ w) → Contains (vectors_of old) w ⊎ Contains (vectors_of (take (i + 1) more)) w
    from (inl m) = elim ((h w).0 m) [ inl o ↦ inl o | inr n ↦ inr (mapped_member_old (λ (z : Solution). z.parts) more i x w l is n) ]
    from (inr e) = inr (subst (Contains (vectors_of (take (i + 1) more))) e (mapped_member_new (λ (z : Solution). z.parts) more i x l is))

    into : Contains (vectors_of old) w ⊎ Contains (vectors_of (take (i + 1) more)) w → Contains (vectors_of new) w
    into (inl o) = (k w).1 (inl ((h w).1 (inl o)))
    into (inr m) = elim (mapped_member_cases (λ (z : Solution). z.parts) more i x w l is m) [ inl n ↦ (k w).1 (inl ((h w).1 (inr n))) | inr e ↦ (k w).1 (inr e) ]

pub put_every : (more : List Solution) (i : ℕ) (old new : List Solution) → length more ≤ i → GrowsBy (Contains (vectors_of (take i more))) (vectors_of old) (vectors_of new) → GrowsBy (Contains (vectors_of more)) (vectors_of old) (vectors_of new)
put_every more i old new l h = subst (λ xs. GrowsBy (Contains (vectors_of xs)) (vectors_of old) (vectors_of new)) (take_all i more l) h
