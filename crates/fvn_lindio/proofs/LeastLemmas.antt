-- Ordered lists of vectors, and the least of some.
use Rattle.std.proofs.Common.{◌≡◌, ℕ, ◌+◌, ◌-◌, ◌<◌, ◌≤◌, ◌⊎◌, ◌↔◌, List, [], ◌∷◌, ◌++◌, length, get_or, take, drop, map, sym, ap, ◌∙◌, subst, inl, inr, arith}
use Rattle.smallvec.specs.SmallVec.{SmallVec}
use Rattle.std.specs.List.{All, AllPairs, Contains, insert}
use Rattle.std.proofs.lemmas.List.{get_or_default, get_or-map, map-append, take-map, drop-map, take_all, take_more, take-append-drop}
use Rattle.std.proofs.lemmas.List.Elements.{Contains-append_left, Contains-get_or}
use Rattle.std.specs.Prelude.{Bool, false, IsTrue}
use Rattle.std.proofs.lemmas.List.Edits.{length-insert, get_or-insert_below, get_or-insert_at, get_or-insert_above}
use Rattle.std.proofs.lemmas.Bool.{cases_lt, cases_order}
use Rattle.fvn_base.specs.Order.{IsBefore}
use Rattle.fvn_base.proofs.Order.{before_else, before_trans}
use Rattle.fvn_lindio.specs.inner.Generators.{vectors_in}
use Rattle.fvn_lindio.specs.inner.Least.{HasOther, IsLeast, IsPlace, IsUniform, StandsAt}
use Rattle.fvn_lindio.specs.declared.level.Point.{Point}
use Rattle.fvn_lindio.proofs.LevelLemmas.{pushed_old, pushed_new, pushed_cases}

-- ---- an insert at the place

module _ (xs : List (List ℕ)) (i : ℕ) (v : List ℕ) (within : i ≤ length xs) where
  put_below : (k : ℕ) (d : List ℕ) → k < i → get_or (insert xs i v) k d ≡ get_or xs k d
  put_below k d l = get_or-insert_below xs i v d k l within

  put_at : (k : ℕ) (d : List ℕ) → k ≡ i → get_or (insert xs i v) k d ≡ v
  put_at k d e = subst (λ j. get_or (insert xs i v) j d ≡ v) (sym e) (get_or-insert_at xs i v d within)

  put_above : (k : ℕ) (d : List ℕ) → i < k → get_or (insert xs i v) k d ≡ get_or xs (k - 1) d
  put_above k d l =
      let e : k - 1 + 1 ≡ k = omega arith in
      subst (λ j. get_or (insert xs i v) j d ≡ get_or xs (k - 1) d) e (get_or-insert_above xs i v d (k - 1) (omega arith) within)

  module _ (ordered : AllPairs IsBefore xs) (earlier : (k : ℕ) (d : List ℕ) → k < i → IsBefore (get_or xs k d) v) (later : (d : List ℕ) → i < length xs → IsBefore v (get_or xs i d)) where
    -- v stands before all from its place on
    all_later : (k : ℕ) (d : List ℕ) → i ≤ k → k < length xs → IsBefore v (get_or xs k d)
    all_later k d l m = go (cases_lt i k)
      where
        go : (i < k) ⊎ (k ≤ i) → IsBefore v (get_or xs k d)
        go (inl n) = before_trans v (get_or xs i d) (get_or xs k d) (later d (omega arith)) (ordered i k d n m)
        go (inr n) =
            let e : i ≡ k = omega arith in
            subst (λ j. IsBefore v (get_or xs j d)) e (later d (omega arith))

    pub AllPairs-put : AllPairs IsBefore (insert xs i v)
    AllPairs-put p q d l m = go (cases_order p i) (cases_order q i)
      where
        bound : q < length xs + 1
        bound = omega (arith, m, length-insert xs i v within)

        two : (x y : List ℕ) → get_or (insert xs i v) p d ≡ x → get_or (insert xs i v) q d ≡ y → IsBefore x y → IsBefore (get_or (insert xs i v) p d) (get_or (insert xs i v) q d)
        two x y e f h = subst (λ z. IsBefore z (get_or (insert xs i v) q d)) (sym e) (subst (IsBefore x) (sym f) h)

        go : (p ≡ i) ⊎ ((p < i) ⊎ (i < p)) → (q ≡ i) ⊎ ((q < i) ⊎ (i < q)) → IsBefore (get_or (insert xs i v) p d) (get_or (insert xs i v) q d)
        go (inr (inl a)) (inr (inl b)) = two (get_or xs p d) (get_or xs q d) (put_below p d a) (put_below q d b) (ordered p q d l (omega arith))
        go (inr (inl a)) (inl b) = two (get_or xs p d) v (put_below p d a) (put_at q d b) (earlier p d a)
        go (inr (inl a)) (inr (inr b)) = two (get_or xs p d) (get_or xs (q - 1) d) (put_below p d a) (put_above q d b) (ordered p (q - 1) d (omega arith) (omega (arith, bound)))
        go (inl a) (inr (inr b)) = two v (get_or xs (q - 1) d) (put_at p d a) (put_above q d b) (all_later (q - 1) d (omega arith) (omega (arith, bound)))
        go (inl a) (inl b) = absurd (omega arith)
        go (inl a) (inr (inl b)) = absurd (omega arith)
        go (inr (inr a)) (inr (inr b)) = two (get_or xs (p - 1) d) (get_or xs (q - 1) d) (put_above p d a) (put_above q d b) (ordered (p - 1) (q - 1) d (omega arith) (omega (arith, bound)))
        go (inr (inr a)) (inl b) = absurd (omega arith)
        go (inr (inr a)) (inr (inl b)) = absurd (omega arith)

  pub Contains-put : (w : List ℕ) → Contains (insert xs i v) w ↔ Contains xs w ⊎ (v ≡ w)
  Contains-put w = (from, into)
    where
      from : Contains (insert xs i v) w → Contains xs w ⊎ (v ≡ w)
      from (k, l, e) = go (cases_order k i)
        where
          bound : k < length xs + 1
          bound = omega (arith, l, length-insert xs i v within)

          go : (k ≡ i) ⊎ ((k < i) ⊎ (i < k)) → Contains xs w ⊎ (v ≡ w)
          go (inl a) = inr (sym (put_at k w a) ∙ e)
          go (inr (inl a)) = inl (k, omega arith, sym (put_below k w a) ∙ e)
          go (inr (inr a)) = inl (k - 1, omega (arith, bound), sym (put_above k w a) ∙ e)

      into : Contains xs w ⊎ (v ≡ w) → Contains (insert xs i v) w
      into (inr e) = (i, omega (arith, length-insert xs i v within), get_or-insert_at xs i v w within ∙ e)
      into (inl (k, l, e)) = go (cases_lt k i)
        where
          go : (k < i) ⊎ (i ≤ k) → Contains (insert xs i v) w
          go (inl a) = (k, omega (arith, length-insert xs i v within), put_below k w a ∙ e)
          go (inr a) = (k + 1, omega (arith, length-insert xs i v within), get_or-insert_above xs i v w k a within ∙ e)

pub vectors-insert : (list : List (SmallVec ℕ)) (i : ℕ) (v : SmallVec ℕ) → vectors_in (insert list i v) ≡ insert (vectors_in list) i v.items
vectors-insert list i v =
    map-append (λ w. w.items) (take i list) (v ∷ drop i list)
    ∙ (ap (λ z. z ++ (v.items ∷ map (λ w. w.items) (drop i list))) (sym (take-map (λ w. w.items) i list))
    ∙ ap (λ z. take i (vectors_in list) ++ (v.items ∷ z)) (sym (drop-map (λ w. w.items) i list)))

-- the vector at a place
pub vector_at : (list : List (SmallVec ℕ)) (i : ℕ) (x : SmallVec ℕ) (d : List ℕ) → i < length list → x ≡ get_or list i x → get_or (vectors_in list) i d ≡ x.items
vector_at list i x d l e = get_or-map (λ w. w.items) list i x d l ∙ ap (λ w. w.items) (sym e)

-- the place behind the last vector that stands before
pub place_after : (xs : List (List ℕ)) (v : List ℕ) (i : ℕ) → AllPairs IsBefore xs → i < length xs → ((d : List ℕ) → IsBefore (get_or xs i d) v) → ((d : List ℕ) → i + 1 < length xs → IsBefore (get_or xs (i + 1) d) v → ⊥) → IsPlace xs v (i + 1)
place_after xs v i ordered l here next = record { within = omega (arith, l); earlier = λ k d m. go k d m (cases_lt k i); here = next }
  where
    go : (k : ℕ) (d : List ℕ) → k < i + 1 → (k < i) ⊎ (i ≤ k) → IsBefore (get_or xs k d) v
    go k d m (inl a) = before_trans (get_or xs k d) (get_or xs i d) v (ordered k i d a l) (here d)
    go k d m (inr a) =
        let e : i ≡ k = omega (arith, m, a) in
        subst (λ j. IsBefore (get_or xs j d) v) e (here d)

-- the first place, where none stands before
pub no_place : (xs : List (List ℕ)) (v : List ℕ) (n i : ℕ) → n ≤ i → length xs ≡ n → ((d : List ℕ) → 0 < i → IsBefore (get_or xs (n - i) d) v → ⊥) → IsPlace xs v 0
no_place xs v n i l e none = record { within = omega arith; earlier = λ k d m. absurd (omega (arith, m)); here = λ d m h. let z : 0 ≡ n - i = omega (arith, l) in none d (omega (arith, m, e, l)) (subst (λ k. IsBefore (get_or xs k d) v) z h) }

-- after an insert at the place of a vector that is not there
module _ (list new : List (SmallVec ℕ)) (v : SmallVec ℕ) (place : ℕ) (is : new ≡ insert list place v) (sized : All (λ w. length w ≡ length v.items) (vectors_in list)) (ordered : AllPairs IsBefore (vectors_in list))
    (placed : IsPlace (vectors_in list) v.items place) (fresh : StandsAt (vectors_in list) place v.items → ⊥) where
  same : vectors_in new ≡ insert (vectors_in list) place v.items
  same = ap vectors_in is ∙ vectors-insert list place v

  later : (d : List ℕ) → place < length (vectors_in list) → IsBefore v.items (get_or (vectors_in list) place d)
  later d l =
      before_else (get_or (vectors_in list) place d) v.items (sized place d l) (placed.here d l)
      (λ e. fresh (l, get_or_default (vectors_in list) place v.items d l ∙ e))

  pub insert_ordered : AllPairs IsBefore (vectors_in new)
  insert_ordered = subst (AllPairs IsBefore) (sym same) (AllPairs-put (vectors_in list) place v.items placed.within ordered placed.earlier later)

  pub insert_exact : (w : List ℕ) → Contains (vectors_in new) w ↔ Contains (vectors_in list) w ⊎ (v.items ≡ w)
  insert_exact w = subst (λ xs. Contains xs w ↔ Contains (vectors_in list) w ⊎ (v.items ≡ w)) (sym same) (Contains-put (vectors_in list) place v.items placed.within w)

-- a vector that stands there already
pub insert_there : (xs : List (List ℕ)) (v : List ℕ) (place : ℕ) → StandsAt xs place v → (w : List ℕ) → Contains xs w ↔ Contains xs w ⊎ (v ≡ w)
insert_there xs v place h w = (λ m. inl m, into)
  where
    into : Contains xs w ⊎ (v ≡ w) → Contains xs w
    into (inl m) = m
    into (inr e) = subst (Contains xs) e (place, h.0, h.1)

-- one point considered
pub consider_kept : (list new : List (SmallVec ℕ)) (points : List Point) (v : List ℕ) → ((w : List ℕ) → Contains (vectors_in new) w ↔ Contains (vectors_in list) w ⊎ (v ≡ w)) → (HasOther points v → ⊥) → (w : List ℕ) → Contains (vectors_in new) w ↔ Contains (vectors_in list) w ⊎ (v ≡ w) × (HasOther points w → ⊥)
consider_kept list new points v h n w = (λ m. from ((h w).0 m), λ m. (h w).1 (into m))
  where
    from : Contains (vectors_in list) w ⊎ (v ≡ w) → Contains (vectors_in list) w ⊎ (v ≡ w) × (HasOther points w → ⊥)
    from (inl m) = inl m
    from (inr e) = inr (e, subst (λ z. HasOther points z → ⊥) e n)

    into : Contains (vectors_in list) w ⊎ (v ≡ w) × (HasOther points w → ⊥) → Contains (vectors_in list) w ⊎ (v ≡ w)
    into (inl m) = inl m
    into (inr e) = inr e.0

pub consider_dropped : (list : List (SmallVec ℕ)) (points : List Point) (v : List ℕ) → HasOther points v → (w : List ℕ) → Contains (vectors_in list) w ↔ Contains (vectors_in list) w ⊎ (v ≡ w) × (HasOther points w → ⊥)
consider_dropped list points v h w = (λ m. inl m, into)
  where
    into : Contains (vectors_in list) w ⊎ (v ≡ w) × (HasOther points w → ⊥) → Contains (vectors_in list) w
    into (inl m) = m
    into (inr e) = absurd (e.1 (subst (HasOther points) e.0 h))

-- what the loop has after the first points
abbrev pub Kept : List Point → ℕ → List (SmallVec ℕ) → Type 0
Kept points i list = (w : List ℕ) → Contains (vectors_in list) w ↔ ((p : Point) × Contains (take i points) p × (p.parts.items ≡ w)) × (HasOther points w → ⊥)

pub kept_more : (points : List Point) (i : ℕ) (p : Point) (list new : List (SmallVec ℕ)) → i < length points → p ≡ get_or points i p → Kept points i list → ((w : List ℕ) → Contains (vectors_in new) w ↔ Contains (vectors_in list) w ⊎ (p.parts.items ≡ w) × (HasOther points w → ⊥)) → Kept points (i + 1) new
kept_more points i p list new l e kept h w = (λ m. from ((h w).0 m), λ m. (h w).1 (into m.0 m.1))
  where
    grown : take (i + 1) points ≡ take i points ++ (p ∷ [])
    grown = take_more points i p l ∙ ap (λ z. take i points ++ (z ∷ [])) (sym e)

    from : Contains (vectors_in list) w ⊎ (p.parts.items ≡ w) × (HasOther points w → ⊥) → ((q : Point) × Contains (take (i + 1) points) q × (q.parts.items ≡ w)) × (HasOther points w → ⊥)
    from (inl m) = let r = (kept w).0 m in ((r.0.0, pushed_old (take i points) (take (i + 1) points) p r.0.0 grown r.0.1, r.0.2), r.1)
    from (inr f) = ((p, pushed_new (take i points) (take (i + 1) points) p grown, f.0), f.1)

    into : ((q : Point) × Contains (take (i + 1) points) q × (q.parts.items ≡ w)) → (HasOther points w → ⊥) → Contains (vectors_in list) w ⊎ (p.parts.items ≡ w) × (HasOther points w → ⊥)
    into q n = go (pushed_cases (take i points) (take (i + 1) points) p q.0 grown q.1)
      where
        go : Contains (take i points) q.0 ⊎ (p ≡ q.0) → Contains (vectors_in list) w ⊎ (p.parts.items ≡ w) × (HasOther points w → ⊥)
        go (inl m) = inl ((kept w).1 ((q.0, m, q.2), n))
        go (inr f) = inr (ap (λ z. z.parts.items) f ∙ q.2, n)

pub kept_all : (points : List Point) (i : ℕ) (list : List (SmallVec ℕ)) → length points ≤ i → Kept points i list → (w : List ℕ) → Contains (vectors_in list) w ↔ IsLeast points w
kept_all points i list l kept = subst (λ ps. (w : List ℕ) → Contains (vectors_in list) w ↔ ((p : Point) × Contains ps p × (p.parts.items ≡ w)) × (HasOther points w → ⊥)) (take_all i points l) kept

-- all that is kept has as many components as any point
pub kept_sized : (points : List Point) (i : ℕ) (p : Point) (list : List (SmallVec ℕ)) → IsUniform points → Contains points p → Kept points i list → All (λ w. length w ≡ length p.parts.items) (vectors_in list)
kept_sized points i p list uniform m kept k d l =
    let w = get_or (vectors_in list) k d in
    let r = (kept w).0 (Contains-get_or (vectors_in list) k d l) in
    let q = r.0.0 in
    let member : Contains points q = in_take points i q r.0.1 in
    ap length (sym r.0.2) ∙ uniform q p member m
  where
    in_take : (points : List Point) (i : ℕ) (q : Point) → Contains (take i points) q → Contains points q
    in_take points i q h = subst (λ z. Contains z q) (take-append-drop i points) (Contains-append_left (take i points) (drop i points) q h)

pub not_false : {P : Type 0} (b : Bool) → b ≡ false → (P → IsTrue b) → P → ⊥
not_false b e h p = let k : IsTrue b = h p in cc
