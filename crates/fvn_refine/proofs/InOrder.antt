-- Rows in their places: tests of the order, and that all rows stand there once.
use Rattle.std.proofs.Common.{◌≡◌, ℕ, zero, suc, ◌+◌, ◌<◌, ◌≤◌, ◌⊎◌, Bool, true, false, nat_lt, nat_eq, List, [], ◌∷◌, ◌++◌, length, drop, get_or, refl, sym, ap, subst, ◌∙◌, inl, inr, arith}
use Rattle.std.specs.List.{Contains, insert}
use Rattle.std.specs.Prelude.{if◌then◌else◌, ◌&&◌}
use Rattle.std.proofs.lemmas.Bool.{or_cases, or_parts, and_parts, ltb-true, eqb-true, eq-eqb, lt-ltb, le-ltb, true≢false, false≢true, cases_order, cases_lt}
use Rattle.fvn_base.specs.Order.{IsBefore}
use Rattle.fvn_base.proofs.Order.{before_trans}
use Rattle.fvn_base.proofs.Membership.{contains_here, contains_later, contains_cases, contains_none}
use Rattle.fvn_forms.specs.SortOrder.{sort_number}
use Rattle.fvn_refine.specs.inner.Rows.{Row}
use Rattle.fvn_refine.specs.inner.Ordering.{numbers, is_before, place, with_in_place, with_all_in_place, all_in_place, AreInOrder}

pub before_true : (r q : Row) → is_before r q ≡ true → IsBefore (numbers r) (numbers q)
before_true [] [] e = absurd (false≢true e)
before_true [] (w ∷ ws) e = tt
before_true (v ∷ vs) [] e = absurd (false≢true e)
before_true (v ∷ vs) (w ∷ ws) e = elim (or_cases (nat_lt v.0 w.0) (nat_eq v.0 w.0 && is_before vs ws) e) [
  | inl l ↦ inl (ltb-true v.0 w.0 l)
  | inr r ↦ let p = and_parts (nat_eq v.0 w.0) (is_before vs ws) r in inr (eqb-true v.0 w.0 p.0, before_true vs ws p.1)
]

-- rows of which neither stands before the other are one
pub neither_before : (r q : Row) → is_before r q ≡ false → is_before q r ≡ false → r ≡ q
neither_before [] [] e f = refl
neither_before [] (w ∷ ws) e f = absurd (true≢false e)
neither_before (v ∷ vs) [] e f = absurd (true≢false f)
neither_before (v ∷ vs) (w ∷ ws) e f = go (cases_order v.0 w.0) (neither_before vs ws)
  where
    left : (nat_lt v.0 w.0 ≡ false) × ((nat_eq v.0 w.0 && is_before vs ws) ≡ false)
    left = or_parts (nat_lt v.0 w.0) (nat_eq v.0 w.0 && is_before vs ws) e

    right : (nat_lt w.0 v.0 ≡ false) × ((nat_eq w.0 v.0 && is_before ws vs) ≡ false)
    right = or_parts (nat_lt w.0 v.0) (nat_eq w.0 v.0 && is_before ws vs) f

    go : (v.0 ≡ w.0) ⊎ ((v.0 < w.0) ⊎ (w.0 < v.0)) → (is_before vs ws ≡ false → is_before ws vs ≡ false → vs ≡ ws) → v ∷ vs ≡ w ∷ ws
    go (inl same) rest =
        let a : is_before vs ws ≡ false = ap (λ b. b && is_before vs ws) (sym (eq-eqb v.0 w.0 same)) ∙ left.1 in
        let b : is_before ws vs ≡ false = ap (λ b. b && is_before ws vs) (sym (eq-eqb w.0 v.0 (sym same))) ∙ right.1 in
        ap (λ n. sort_number n ∷ vs) same ∙ ap (λ l. w ∷ l) (rest a b)
    go (inr (inl l)) rest = absurd (true≢false (sym (lt-ltb v.0 w.0 l) ∙ left.0))
    go (inr (inr l)) rest = absurd (true≢false (sym (lt-ltb w.0 v.0 l) ∙ right.0))

-- where the row is put
pub place_within : (rows : List Row) (row : Row) → place rows row ≤ length rows
place_within [] row = omega arith
place_within (r ∷ rows) row = go (is_before r row) (place_within rows row)
  where
    go : (b : Bool) → place rows row ≤ length rows → (if b then suc (place rows row) else 0) ≤ length (r ∷ rows)
    go true l = omega arith
    go false l = omega arith

place_after : (rows : List Row) (i : ℕ) (r row : Row) → i < length rows → r ≡ get_or rows i r → is_before r row ≡ true → place (drop i rows) row ≡ suc (place (drop (suc i) rows) row)
place_after [] i r row within is e = absurd (omega arith)
place_after (q ∷ rows) zero r row within is e = ap (λ b. if b then suc (place rows row) else 0) (ap (λ z. is_before z row) (sym is) ∙ e)
place_after (q ∷ rows) (suc i) r row within is e = place_after rows i r row (omega arith) is e

pub place_next : (rows : List Row) (i : ℕ) (r row : Row) → i < length rows → r ≡ get_or rows i r → is_before r row ≡ true → i + place (drop i rows) row ≡ i + 1 + place (drop (i + 1) rows) row
place_next rows i r row within is e =
    let a : suc i ≡ i + 1 = omega arith in
    let f : place (drop i rows) row ≡ suc (place (drop (i + 1) rows) row) = place_after rows i r row within is e ∙ ap (λ n. suc (place (drop n rows) row)) a in
    omega arith

pub place_here : (rows : List Row) (i : ℕ) (r row : Row) → i < length rows → r ≡ get_or rows i r → is_before r row ≡ false → place (drop i rows) row ≡ 0
place_here [] i r row within is e = absurd (omega arith)
place_here (q ∷ rows) zero r row within is e = ap (λ b. if b then suc (place rows row) else 0) (ap (λ z. is_before z row) (sym is) ∙ e)
place_here (q ∷ rows) (suc i) r row within is e = place_here rows i r row (omega arith) is e

pub place_past : (rows : List Row) (i : ℕ) (row : Row) → length rows ≤ i → place (drop i rows) row ≡ 0
place_past [] zero row past = refl
place_past [] (suc i) row past = refl
place_past (q ∷ rows) zero row past = absurd (omega arith)
place_past (q ∷ rows) (suc i) row past = place_past rows i row (omega arith)

-- at the end, in place of nothing, or before the row there
pub in_place_last : (rows : List Row) (row : Row) → place rows row ≡ length rows → with_in_place rows row ≡ rows ++ row ∷ []
in_place_last [] row e = refl
in_place_last (r ∷ rows) row e = go (is_before r row) refl (in_place_last rows row)
  where
    go : (b : Bool) → is_before r row ≡ b → (place rows row ≡ length rows → with_in_place rows row ≡ rows ++ row ∷ []) →
        (if b then r ∷ with_in_place rows row else if is_before row r then row ∷ r ∷ rows else r ∷ rows) ≡ r ∷ (rows ++ row ∷ [])
    go true f rest =
        let n : suc (place rows row) ≡ length (r ∷ rows) = ap (λ b. if b then suc (place rows row) else 0) (sym f) ∙ e in
        ap (λ l. r ∷ l) (rest (omega arith))
    go false f rest =
        let n : 0 ≡ length (r ∷ rows) = ap (λ b. if b then suc (place rows row) else 0) (sym f) ∙ e in
        absurd (omega arith)

pub in_place_there : (rows : List Row) (row q : Row) → place rows row < length rows → q ≡ get_or rows (place rows row) q → is_before row q ≡ false → with_in_place rows row ≡ rows
in_place_there [] row q within is n = absurd (omega arith)
in_place_there (r ∷ rows) row q within is n = go (is_before r row) refl within is (in_place_there rows row q)
  where
    go : (b : Bool) → is_before r row ≡ b → (if b then suc (place rows row) else 0) < length (r ∷ rows) → q ≡ get_or (r ∷ rows) (if b then suc (place rows row) else 0) q →
        (place rows row < length rows → q ≡ get_or rows (place rows row) q → is_before row q ≡ false → with_in_place rows row ≡ rows) →
        (if b then r ∷ with_in_place rows row else if is_before row r then row ∷ r ∷ rows else r ∷ rows) ≡ r ∷ rows
    go true f within is rest = ap (λ l. r ∷ l) (rest (omega arith) is n)
    go false f within is rest = ap (λ b. if b then row ∷ r ∷ rows else r ∷ rows) (ap (is_before row) (sym is) ∙ n)

pub in_place_before : (rows : List Row) (row q : Row) → place rows row < length rows → q ≡ get_or rows (place rows row) q → is_before row q ≡ true → with_in_place rows row ≡ insert rows (place rows row) row
in_place_before [] row q within is n = absurd (omega arith)
in_place_before (r ∷ rows) row q within is n = go (is_before r row) refl within is (in_place_before rows row q)
  where
    go : (b : Bool) → is_before r row ≡ b → (if b then suc (place rows row) else 0) < length (r ∷ rows) → q ≡ get_or (r ∷ rows) (if b then suc (place rows row) else 0) q →
        (place rows row < length rows → q ≡ get_or rows (place rows row) q → is_before row q ≡ true → with_in_place rows row ≡ insert rows (place rows row) row) →
        (if b then r ∷ with_in_place rows row else if is_before row r then row ∷ r ∷ rows else r ∷ rows) ≡ insert (r ∷ rows) (if b then suc (place rows row) else 0) row
    go true f within is rest = ap (λ l. r ∷ l) (rest (omega arith) is n)
    go false f within is rest = ap (λ b. if b then row ∷ r ∷ rows else r ∷ rows) (ap (is_before row) (sym is) ∙ n)

-- the end of a comparison
pub before_end : (r q : Row) → (length r ≡ 0) ⊎ (length q ≡ 0) → is_before r q ≡ nat_lt (length r) (length q)
before_end [] [] h = refl
before_end [] (w ∷ ws) h = sym (lt-ltb 0 (length (w ∷ ws)) (omega arith))
before_end (v ∷ vs) [] h = sym (le-ltb (length (v ∷ vs)) 0 (omega arith))
before_end (v ∷ vs) (w ∷ ws) (inl e) = absurd (omega arith)
before_end (v ∷ vs) (w ∷ ws) (inr e) = absurd (omega arith)

pub before_ended : (row other r q : Row) → length row + length q ≡ length other + length r → (length r ≡ 0) ⊎ (length q ≡ 0) → is_before row other ≡ is_before r q → nat_lt (length row) (length other) ≡ is_before row other
before_ended row other r q as_many ended decide = go (cases_lt (length r) (length q)) ∙ sym (before_end r q ended) ∙ sym decide
  where
    go : (length r < length q) ⊎ (length q ≤ length r) → nat_lt (length row) (length other) ≡ nat_lt (length r) (length q)
    go (inl l) = lt-ltb (length row) (length other) (omega arith) ∙ sym (lt-ltb (length r) (length q) l)
    go (inr l) = le-ltb (length row) (length other) (omega arith) ∙ sym (le-ltb (length r) (length q) l)

-- the rows with one more have this one and the others
pub in_place_from : (rows : List Row) (row q : Row) → Contains (with_in_place rows row) q → Contains rows q ⊎ (row ≡ q)
in_place_from [] row q c = elim (contains_cases row [] q c) [ inl e ↦ inr e | inr l ↦ inl l ]
in_place_from (r ∷ rows) row q c = go (is_before r row) c (in_place_from rows row q)
  where
    after : (b : Bool) → Contains (if b then row ∷ r ∷ rows else r ∷ rows) q → Contains (r ∷ rows) q ⊎ (row ≡ q)
    after true c = elim (contains_cases row (r ∷ rows) q c) [ inl e ↦ inr e | inr l ↦ inl l ]
    after false c = inl c

    go : (b : Bool) → Contains (if b then r ∷ with_in_place rows row else if is_before row r then row ∷ r ∷ rows else r ∷ rows) q → (Contains (with_in_place rows row) q → Contains rows q ⊎ (row ≡ q)) → Contains (r ∷ rows) q ⊎ (row ≡ q)
    go true c rest = elim (contains_cases r (with_in_place rows row) q c) [
      | inl e ↦ inl (subst (Contains (r ∷ rows)) e (contains_here r rows))
      | inr l ↦ elim (rest l) [ inl o ↦ inl (contains_later r rows q o) | inr e ↦ inr e ]
    ]
    go false c rest = after (is_before row r) c

pub in_place_old : (rows : List Row) (row q : Row) → Contains rows q → Contains (with_in_place rows row) q
in_place_old [] row q c = absurd (contains_none q c)
in_place_old (r ∷ rows) row q c = go (is_before r row) (in_place_old rows row q)
  where
    after : (b : Bool) → Contains (if b then row ∷ r ∷ rows else r ∷ rows) q
    after true = contains_later row (r ∷ rows) q c
    after false = c

    go : (b : Bool) → (Contains rows q → Contains (with_in_place rows row) q) → Contains (if b then r ∷ with_in_place rows row else if is_before row r then row ∷ r ∷ rows else r ∷ rows) q
    go true rest = elim (contains_cases r rows q c) [
      | inl e ↦ subst (Contains (r ∷ with_in_place rows row)) e (contains_here r (with_in_place rows row))
      | inr l ↦ contains_later r (with_in_place rows row) q (rest l)
    ]
    go false rest = after (is_before row r)

pub in_place_new : (rows : List Row) (row : Row) → Contains (with_in_place rows row) row
in_place_new [] row = contains_here row []
in_place_new (r ∷ rows) row = go (is_before r row) refl (in_place_new rows row)
  where
    after : (b : Bool) → is_before r row ≡ false → is_before row r ≡ b → Contains (if b then row ∷ r ∷ rows else r ∷ rows) row
    after true e f = contains_here row (r ∷ rows)
    after false e f = subst (Contains (r ∷ rows)) (neither_before r row e f) (contains_here r rows)

    go : (b : Bool) → is_before r row ≡ b → Contains (with_in_place rows row) row → Contains (if b then r ∷ with_in_place rows row else if is_before row r then row ∷ r ∷ rows else r ∷ rows) row
    go true e rest = contains_later r (with_in_place rows row) row rest
    go false e rest = after (is_before row r) e refl

pub in_place_ordered : (rows : List Row) (row : Row) → AreInOrder rows → AreInOrder (with_in_place rows row)
in_place_ordered [] row h = (λ q c. absurd (contains_none q c), tt)
in_place_ordered (r ∷ rows) row h = go (is_before r row) refl (in_place_ordered rows row h.1)
  where
    after : (b : Bool) → is_before row r ≡ b → AreInOrder (if b then row ∷ r ∷ rows else r ∷ rows)
    after true e = (
      λ q c. elim (contains_cases r rows q c) [
        | inl f ↦ subst (λ z. IsBefore (numbers row) (numbers z)) f (before_true row r e)
        | inr l ↦ before_trans (numbers row) (numbers r) (numbers q) (before_true row r e) (h.0 q l)
      ],
      h,
    )
    after false e = h

    go : (b : Bool) → is_before r row ≡ b → AreInOrder (with_in_place rows row) → AreInOrder (if b then r ∷ with_in_place rows row else if is_before row r then row ∷ r ∷ rows else r ∷ rows)
    go true e rest = (
      λ q c. elim (in_place_from rows row q c) [
        | inl l ↦ h.0 q l
        | inr f ↦ subst (λ z. IsBefore (numbers r) (numbers z)) f (before_true r row e)
      ],
      rest,
    )
    go false e rest = after (is_before row r) refl

-- several more
pub all_place-push : (rows more : List Row) (row : Row) → with_all_in_place rows (more ++ row ∷ []) ≡ with_in_place (with_all_in_place rows more) row
all_place-push rows [] row = refl
all_place-push rows (m ∷ more) row = all_place-push (with_in_place rows m) more row

all_from : (rows more : List Row) (q : Row) → Contains (with_all_in_place rows more) q → Contains rows q ⊎ Contains more q
all_from rows [] q c = inl c
all_from rows (m ∷ more) q c = elim (all_from (with_in_place rows m) more q c) [
  | inl k ↦ elim (in_place_from rows m q k) [ inl l ↦ inl l | inr e ↦ inr (subst (Contains (m ∷ more)) e (contains_here m more)) ]
  | inr k ↦ inr (contains_later m more q k)
]

all_old : (rows more : List Row) (q : Row) → Contains rows q → Contains (with_all_in_place rows more) q
all_old rows [] q c = c
all_old rows (m ∷ more) q c = all_old (with_in_place rows m) more q (in_place_old rows m q c)

all_new : (rows more : List Row) (q : Row) → Contains more q → Contains (with_all_in_place rows more) q
all_new rows [] q c = absurd (contains_none q c)
all_new rows (m ∷ more) q c = elim (contains_cases m more q c) [
  | inl e ↦ all_old (with_in_place rows m) more q (subst (Contains (with_in_place rows m)) e (in_place_new rows m))
  | inr l ↦ all_new (with_in_place rows m) more q l
]

all_ordered : (rows more : List Row) → AreInOrder rows → AreInOrder (with_all_in_place rows more)
all_ordered rows [] h = h
all_ordered rows (m ∷ more) h = all_ordered (with_in_place rows m) more (in_place_ordered rows m h)

-- all rows stand in their places, and no others
pub placed_from : (more : List Row) (q : Row) → Contains (all_in_place more) q → Contains more q
placed_from more q c = elim (all_from [] more q c) [ inl l ↦ absurd (contains_none q l) | inr r ↦ r ]

pub placed_all : (more : List Row) (q : Row) → Contains more q → Contains (all_in_place more) q
placed_all more q c = all_new [] more q c

pub placed_in_order : (more : List Row) → AreInOrder (all_in_place more)
placed_in_order more = all_ordered [] more tt
