-- The points with which a row is searched generate what it needs.
use Rattle.std.proofs.Common.{Some, ◌≡◌, ◌≢◌, ℕ, zero, suc, ◌+◌, ◌<◌, ◌≤◌, ◌⊎◌, ◌↔◌, ℤ, pos, List, [], ◌∷◌, ◌++◌, length, get_or, take, set, replicate, sum, refl, sym, ap, ◌∙◌, subst, inl, inr, arith}
use Rattle.smallvec.specs.SmallVec.{SmallVec}
use Rattle.std.specs.List.{All, Contains}
use Rattle.std.proofs.lemmas.List.{get_or-set_other, get_or_past, length-set, length-replicate}
use Rattle.std.proofs.lemmas.List.Elements.{All-nil, All-cons, All-head, All-tail, All-push, All-pop, All-set, All-replicate, All-contains}
use Rattle.std.proofs.lemmas.Bool.{cases_lt}
use Rattle.fvn_base.specs.Decided.{Decided}
use Rattle.fvn_lindio.specs.Vectors.{IsAtOrBelow, IsNonZero}
use Rattle.fvn_lindio.specs.Systems.{above, below, IsZeroAt, IsUnused, Solves, IsMinimal}
use Rattle.fvn_lindio.specs.inner.Search.{Lies}
use Rattle.fvn_lindio.specs.inner.Levels.{Generates}
use Rattle.fvn_lindio.specs.inner.Generators.{Adds, IsValued, Values, IsNewUnit, IsNewUnitBelow, vectors_in}
use Rattle.fvn_lindio.specs.declared.level.Point.{Point}
use Rattle.fvn_lindio.proofs.VectorLemmas.{sum-cons, sides-zero, below_same, below_get_or}
use Rattle.fvn_lindio.proofs.ValueLemmas.{zero-both}
use Rattle.fvn_lindio.proofs.Solving.{minimal_below}
use Rattle.fvn_lindio.proofs.LevelLemmas.{pushed_old, pushed_new, pushed_cases}
use Rattle.fvn_base.proofs.MappedLists.{mapped_member_old, mapped_member_new, mapped_member_cases}

-- one vector more
pub known_more : (row : List ℤ) (known : List (SmallVec ℕ)) (i : ℕ) (v : SmallVec ℕ) (old new : List Point) (p : Point) → i < length known → v ≡ get_or known i v → new ≡ old ++ (p ∷ []) → p.parts.items ≡ v.items → IsValued row p → Values row (Contains (vectors_in (take i known))) old → Values row (Contains (vectors_in (take (i + 1) known))) new
known_more row known i v old new p l e f parts valued h = record { each = λ q m. each q (pushed_cases old new p q f m); stands = λ w m. stands w (mapped_member_cases (λ z. z.items) known i v w l e m) }
  where
    each : (q : Point) → Contains old q ⊎ (p ≡ q) → Contains (vectors_in (take (i + 1) known)) q.parts.items × IsValued row q
    each q (inl m) = let r = h.each q m in (mapped_member_old (λ z. z.items) known i v q.parts.items l e r.0, r.1)
    each q (inr g) = subst (λ z. Contains (vectors_in (take (i + 1) known)) z.parts.items × IsValued row z) g (subst (Contains (vectors_in (take (i + 1) known))) (sym parts) (mapped_member_new (λ z. z.items) known i v l e), valued)

    stands : (w : List ℕ) → Contains (vectors_in (take i known)) w ⊎ (v.items ≡ w) → (q : Point) × Contains new q × (q.parts.items ≡ w)
    stands w (inl m) = let r = h.stands w m in (r.0, pushed_old old new p r.0 f r.1, r.2)
    stands w (inr g) = (p, pushed_new old new p f, parts ∙ g)

-- nothing is added where nothing has the property
pub Adds-none : (row : List ℤ) (P : List ℕ → Type 0) (points : List Point) → ((v : List ℕ) → P v → ⊥) → Adds row P points points
Adds-none row P points none =
    record { stays = λ p m. m; each = λ p m. inl m; stands = λ v p. absurd (none v p) }

pub Adds-one : (row : List ℤ) (P : List ℕ → Type 0) (old new : List Point) (p : Point) → new ≡ old ++ (p ∷ []) → P p.parts.items → IsValued row p → ((v : List ℕ) → P v → v ≡ p.parts.items) → Adds row P old new
Adds-one row P old new p e q valued one =
    record { stays = λ r m. pushed_old old new p r e m; each = λ r m. each r (pushed_cases old new p r e m); stands = λ v h. (p, pushed_new old new p e, sym (one v h)) }
  where
    each : (r : Point) → Contains old r ⊎ (p ≡ r) → Contains old r ⊎ P r.parts.items × IsValued row r
    each r (inl m) = inl m
    each r (inr g) = inr (subst (λ z. P z.parts.items × IsValued row z) g (q, valued))

-- one column more
pub Adds-more : (columns : ℕ) (before : List (List ℤ)) (row : List ℤ) (n : ℕ) (a b c : List Point) → Adds row (IsNewUnitBelow columns before row n) a b → Adds row (IsNewUnit columns before row n) b c → Adds row (IsNewUnitBelow columns before row (n + 1)) a c
Adds-more columns before row n a b c h k =
    record { stays = λ p m. k.stays p (h.stays p m); each = λ p m. each p (k.each p m); stands = λ v u. stands v u (cases_lt u.0 n) }
  where
    earlier : (p : Point) → Contains a p ⊎ IsNewUnitBelow columns before row n p.parts.items × IsValued row p → Contains a p ⊎ IsNewUnitBelow columns before row (n + 1) p.parts.items × IsValued row p
    earlier p (inl m) = inl m
    earlier p (inr u) = inr ((u.0.0, omega (arith, u.0.1), u.0.2), u.1)

    each : (p : Point) → Contains b p ⊎ IsNewUnit columns before row n p.parts.items × IsValued row p → Contains a p ⊎ IsNewUnitBelow columns before row (n + 1) p.parts.items × IsValued row p
    each p (inl m) = earlier p (h.each p m)
    each p (inr u) = inr ((n, omega arith, u.0), u.1)

    stands : (v : List ℕ) (u : IsNewUnitBelow columns before row (n + 1) v) → (u.0 < n) ⊎ (n ≤ u.0) → (p : Point) × Contains c p × (p.parts.items ≡ v)
    stands v u (inl l) = let r = h.stands v (u.0, l, u.2) in (r.0, k.stays r.0 r.1, r.2)
    stands v u (inr l) =
        let e : u.0 ≡ n = omega (arith, u.1, l) in
        k.stands v (subst (λ j. IsNewUnit columns before row j v) e u.2)

-- ---- unit vectors

abbrev unit_of : ℕ → ℕ → List ℕ
unit_of n j = set (replicate n 0) j 1

sum-zeros : (n : ℕ) → sum (replicate n 0) ≡ 0
sum-zeros zero = refl
sum-zeros (suc n) = omega (arith, sum-cons 0 (replicate n 0), sum-zeros n)

get_or-zeros : (n k : ℕ) → get_or {A = ℕ} (replicate n 0) k 0 ≡ 0
get_or-zeros zero k = refl
get_or-zeros (suc n) zero = refl
get_or-zeros (suc n) (suc k) = get_or-zeros n k

sum-unit : (n j : ℕ) → j < n → sum (unit_of n j) ≡ 1
sum-unit zero j h = absurd (omega arith)
sum-unit (suc n) zero h = omega (arith, sum-cons 1 (replicate n 0), sum-zeros n)
sum-unit (suc n) (suc j) h =
    let l : j < n = omega arith in
    omega (arith, sum-cons 0 (unit_of n j), sum-unit n j l)

length-unit : (n j : ℕ) → length (unit_of n j) ≡ n
length-unit n j = length-set (replicate n 0) j 1 ∙ length-replicate n 0

get_or-unit_other : (n j k : ℕ) → k ≢ j → get_or (unit_of n j) k 0 ≡ 0
get_or-unit_other n j k h = get_or-set_other (replicate n 0) j k 1 0 h ∙ get_or-zeros n k

-- a row that does not use the column is zero at its unit
zero_at_unit : (row : List ℤ) (j : ℕ) → j < length row → get_or row j (pos 0) ≡ pos 0 → IsZeroAt (unit_of (length row) j) row
zero_at_unit [] j h z = refl
zero_at_unit (c ∷ row) zero h z =
    let r = sides-zero row (replicate (length row) 0) (sum-zeros (length row)) in
    omega (arith, ap above z, ap below z, r.0, r.1)
zero_at_unit (c ∷ row) (suc j) h z =
    let l : j < length row = omega arith in
    omega (arith, zero_at_unit row j l z)

zeros_below : (z : List ℕ) → IsAtOrBelow (replicate (length z) 0) z
zeros_below [] = tt
zeros_below (a ∷ z) = (omega arith, zeros_below z)

unit_below : (z : List ℕ) (j : ℕ) → 0 < get_or z j 0 → IsAtOrBelow (unit_of (length z) j) z
unit_below [] j h = tt
unit_below (a ∷ z) zero h = (omega (arith, h), zeros_below z)
unit_below (a ∷ z) (suc j) h = (omega arith, unit_below z j h)

-- ---- unused columns

zero_told : (z : ℤ) → Decided (z ≡ pos 0)
zero_told z = go (cases_lt 0 (above z)) (cases_lt 0 (below z))
  where
    go : (0 < above z) ⊎ (above z ≤ 0) → (0 < below z) ⊎ (below z ≤ 0) → Decided (z ≡ pos 0)
    go (inl h) k = inr (λ e. let f : above z ≡ 0 = ap above e in omega (arith, f, h))
    go (inr h) (inl k) = inr (λ e. let f : below z ≡ 0 = ap below e in omega (arith, f, k))
    go (inr h) (inr k) = inl (zero-both z (omega arith) (omega arith))

-- the row does not use column j
abbrev pub ZeroIn : ℕ → List ℤ → Type 0
ZeroIn j row = get_or row j (pos 0) ≡ pos 0

unused_told : (rows : List (List ℤ)) (j : ℕ) → Decided (IsUnused rows j)
unused_told [] j = inl (All-nil (ZeroIn j))
unused_told (row ∷ rows) j = go (zero_told (get_or row j (pos 0))) (unused_told rows j)
  where
    go : Decided (get_or row j (pos 0) ≡ pos 0) → Decided (IsUnused rows j) → IsUnused (row ∷ rows) j ⊎ (IsUnused (row ∷ rows) j → ⊥)
    go (inl e) (inl h) = inl (All-cons (ZeroIn j) row rows e h)
    go (inl e) (inr n) = inr (λ h. n (All-tail (ZeroIn j) row rows h))
    go (inr n) h = inr (λ k. n (All-head (ZeroIn j) row rows k))

abbrev HasNew : List (List ℤ) → List ℕ → ℕ → Type 0
HasNew rows z n = (j : ℕ) × (j < n) × IsUnused rows j × (0 < get_or z j 0)

abbrev HasNoNew : List (List ℤ) → List ℕ → ℕ → Type 0
HasNoNew rows z n = (j : ℕ) → j < n → IsUnused rows j → get_or z j 0 ≡ 0

-- a column below n that the rows do not use and the vector does, or none
new_column : (rows : List (List ℤ)) (z : List ℕ) (n : ℕ) → HasNew rows z n ⊎ HasNoNew rows z n
new_column rows z zero = inr (λ j h u. absurd (omega arith))
new_column rows z (suc n) = go (new_column rows z n) (unused_told rows n) (cases_lt 0 (get_or z n 0))
  where
    no_new_more : HasNoNew rows z n → (IsUnused rows n → get_or z n 0 ≡ 0) → HasNoNew rows z (suc n)
    no_new_more none here j h u = split (cases_lt j n)
      where
        split : (j < n) ⊎ (n ≤ j) → get_or z j 0 ≡ 0
        split (inl l) = none j l u
        split (inr l) =
            let e : n ≡ j = omega (arith, l, h) in
            subst (λ k. IsUnused rows k → get_or z k 0 ≡ 0) e here u

    go : HasNew rows z n ⊎ HasNoNew rows z n → Decided (IsUnused rows n) → (0 < get_or z n 0) ⊎ (get_or z n 0 ≤ 0) → HasNew rows z (suc n) ⊎ HasNoNew rows z (suc n)
    go (inl s) u p = inl (s.0, omega (arith, s.1), s.2, s.3)
    go (inr none) (inl u) (inl p) = inl (n, omega arith, u, p)
    go (inr none) (inl u) (inr p) = inr (no_new_more none (λ _. omega (arith, p)))
    go (inr none) (inr v) p = inr (no_new_more none (λ u. absurd (v u)))

module _ (columns : ℕ) (before : List (List ℤ)) (row : List ℤ) (known : List (List ℕ)) (middle points : List Point)
    (sized : length row ≡ columns) (before_sized : All (λ r. length r ≡ columns) before)
    (exact : (v : List ℕ) → Contains known v ↔ IsMinimal columns before v) (known_narrow : All (All (λ a. a ≤ 65535)) known)
    (values : Values row (Contains known) middle) (adds : Adds row (IsNewUnitBelow columns before row columns) middle points) where
  abbrev whole : List (List ℤ)
  whole = before ++ (row ∷ [])

  -- a column that no row uses is used by none before, and not by this one
  unused_before : (j : ℕ) → IsUnused whole j → IsUnused before j × (get_or row j (pos 0) ≡ pos 0)
  unused_before j h = All-pop (ZeroIn j) whole before (Some row) refl h

  unused_whole : (j : ℕ) → IsUnused before j → get_or row j (pos 0) ≡ pos 0 → IsUnused whole j
  unused_whole j h e = All-push (ZeroIn j) before row h e

  known_lies : (v : List ℕ) → IsMinimal columns before v → Lies columns before whole v
  known_lies v m =
      record { sized = m.solves.sized; zero_rows = m.solves.zero_rows; unused = λ j u. m.solves.unused j (unused_before j u).0 }

  unit_lies : (j : ℕ) → j < columns → IsUnused before j → get_or row j (pos 0) ≢ pos 0 → Lies columns before whole (unit_of columns j)
  unit_lies j l u n =
      record {
        sized = length-unit columns j;
        zero_rows = λ i d m. zero_at (get_or before i d) (before_sized i d m) (u i d m);
        unused = λ k h. get_or-unit_other columns j k (λ e. n (subst (λ c. get_or row c (pos 0) ≡ pos 0) e (unused_before k h).1));
      }
    where
      zero_at : (r : List ℤ) → length r ≡ columns → ZeroIn j r → IsZeroAt (unit_of columns j) r
      zero_at r e z = subst (λ c. IsZeroAt (unit_of c j) r) e (zero_at_unit r j (omega (arith, e, l)) z)

  abbrev Kind : List ℕ → Type 0
  Kind v = Contains known v ⊎ IsNewUnitBelow columns before row columns v

  kind : (p : Point) → Contains points p → Kind p.parts.items × IsValued row p
  kind p m = go (adds.each p m)
    where
      go : Contains middle p ⊎ IsNewUnitBelow columns before row columns p.parts.items × IsValued row p → Kind p.parts.items × IsValued row p
      go (inl h) = let r = values.each p h in (inl r.0, r.1)
      go (inr h) = (inr h.0, h.1)

  stands : (v : List ℕ) → Kind v → (p : Point) × Contains points p × (p.parts.items ≡ v)
  stands v (inl h) = let r = values.stands v h in (r.0, adds.stays r.0 r.1, r.2)
  stands v (inr h) = adds.stands v h

  kind_lies : (v : List ℕ) → Kind v → Lies columns before whole v × IsNonZero v × All (λ a. a ≤ 65535) v
  kind_lies v (inl h) =
      let m = (exact v).0 h in
      (known_lies v m, m.nonzero, All-contains (All (λ a. a ≤ 65535)) known v known_narrow h)
  kind_lies v (inr h) =
      let e : unit_of columns h.0 ≡ v = sym h.2.2 in
      subst (λ w. Lies columns before whole w × IsNonZero w × All (λ a. a ≤ 65535) w) e
      (unit_lies h.0 h.1 h.2.0 h.2.1, omega (arith, sum-unit columns h.0 h.1), All-set (λ a. a ≤ 65535) (replicate columns 0) h.0 1 (omega arith) (All-replicate (λ a. a ≤ 65535) columns 0 (omega arith)))

  under : (z : List ℕ) → Lies columns before whole z → IsNonZero z → (g : Point) × Contains points g × IsAtOrBelow g.parts.items z
  under z h n = go (new_column before z columns)
    where
      from : (v : List ℕ) → Kind v → IsAtOrBelow v z → (g : Point) × Contains points g × IsAtOrBelow g.parts.items z
      from v k l = let r = stands v k in (r.0, r.1, subst (λ w. IsAtOrBelow w z) (sym r.2) l)

      go : HasNew before z columns ⊎ HasNoNew before z columns → (g : Point) × Contains points g × IsAtOrBelow g.parts.items z
      go (inl (j, l, u, p)) =
          from (unit_of columns j) (inr (j, l, (u, (λ e. let f : get_or z j 0 ≡ 0 = h.unused j (unused_whole j u e) in omega (arith, f, p)), refl))) (subst (λ c. IsAtOrBelow (unit_of c j) z) h.sized (unit_below z j p))
      go (inr none) =
          let solves : Solves columns before z = record { sized = h.sized; zero_rows = h.zero_rows; unused = λ j u. at j u (cases_lt j columns) } in
          let m = minimal_below columns before (sum z) z (omega arith) solves n in
          from m.0 (inl ((exact m.0).1 m.1)) m.2
        where
          at : (j : ℕ) → IsUnused before j → (j < columns) ⊎ (columns ≤ j) → get_or z j 0 ≡ 0
          at j u (inl l) = none j l u
          at j u (inr l) = get_or_past z j 0 (omega (arith, l, h.sized))

  kind_least : (v : List ℕ) → Kind v → (y : List ℕ) → Lies columns before whole y → IsNonZero y → IsAtOrBelow y v → y ≡ v
  kind_least v (inl h) y l n b =
      let m = (exact v).0 h in
      m.least y (record { sized = l.sized; zero_rows = l.zero_rows; unused = λ j u. omega (arith, below_get_or y v j b, m.solves.unused j u) }) n b
  kind_least v (inr h) y l n b =
      let e : unit_of columns h.0 ≡ v = sym h.2.2 in
      subst (λ w. IsAtOrBelow y w → y ≡ w) e (λ k. below_same y (unit_of columns h.0) k (omega (arith, sum-unit columns h.0 h.1, n))) b

  pub generates_from : Generates columns before row points
  generates_from =
      record {
        points = λ g m. let k = kind g m in let l = kind_lies g.parts.items k.0 in record { lies = l.0; nonzero = l.1; exact = k.1.exact };
        narrow = λ g m. (kind_lies g.parts.items (kind g m).0).2;
        under = under;
        least = λ g m y l n b. kind_least g.parts.items (kind g m).0 y l n b;
      }
