-- What is looked up in rows in which something was noted.
use Rattle.std.proofs.Common.{◌≡◌, ◌≢◌, ℕ, suc, ◌+◌, ◌<◌, ◌≤◌, Bool, true, false, if◌then◌else◌, List, [], ◌∷◌, ◌++◌, length, set, get_or, drop, replicate, add-one, refl, sym, ap, ◌∙◌, subst, inl, inr, arith}
use Rattle.std.specs.Prelude.{◌⊎◌, Contains}
use Rattle.std.proofs.Math.Seq.{drop-cons}
use Rattle.std.proofs.lemmas.List.{append-nil, append_assoc}
use Rattle.fvn_base.proofs.Membership.{contains_here, contains_later, contains_cases, contains_none}
use Rattle.fvn_cover_counts.specs.declared.symbols.Symbol.{Symbol}
use Rattle.fvn_cover_counts.specs.declared.rows.Row.{Row}
use Rattle.fvn_cover_counts.specs.Weights.{same_symbol}
use Rattle.fvn_cover_counts.specs.inner.Rows.{position, extended, noted, places_at, AreDistinct, Notes}
use Rattle.fvn_cover_counts.proofs.SameSymbols.{same_symbol_is, same_symbol_itself, same_seen, same_symbol_sym}

-- a list that goes on is not empty
pub longer : (xs ys : List ℕ) → xs ≢ [] → (xs ++ ys) ≢ []
longer [] ys n e = n refl
longer (x ∷ xs) ys n e = cc

module _ (s : Symbol) (more : List ℕ) where
  -- further places for one symbol
  abbrev pub for_one : Symbol → List ℕ
  for_one z = if same_symbol s z then more else []

  noted_at : (rows : List Row) (z : Symbol) → places_at z (noted s more rows) ≡ places_at z rows ++ for_one z
  noted_at [] z = refl
  noted_at (r ∷ rs) z = go (same_symbol r.symbol s) (same_symbol r.symbol z) refl refl (noted_at rs z)
    where
      go : (a b : Bool) → same_symbol r.symbol s ≡ a → same_symbol r.symbol z ≡ b → places_at z (noted s more rs) ≡ places_at z rs ++ for_one z → places_at z (noted s more (r ∷ rs)) ≡ places_at z (r ∷ rs) ++ for_one z
      go true true p q k = let e = sym (same_seen r.symbol s z p) ∙ q in rw (p, q, e) refl
      go true false p q k = let e = sym (same_seen r.symbol s z p) ∙ q in rw (p, q, e) (sym (append-nil (places_at z rs)))
      go false true p q k = let e = same_symbol_sym s z ∙ sym (same_seen r.symbol z s q) ∙ p in rw (p, q, e) (sym (append-nil r.places))
      go false false p q k = rw (p, q) k

  noted_distinct : more ≢ [] → (rows : List Row) → AreDistinct rows → AreDistinct (noted s more rows)
  noted_distinct n [] h = (n, refl, tt)
  noted_distinct n (r ∷ rs) h = go (same_symbol r.symbol s) refl (noted_distinct n rs h.2)
    where
      go : (a : Bool) → same_symbol r.symbol s ≡ a → AreDistinct (noted s more rs) → AreDistinct (noted s more (r ∷ rs))
      go true p k = rw p (longer r.places more h.0, h.1, h.2)
      go false p k = let e = same_symbol_sym s r.symbol ∙ p in rw p (h.0, noted_at rs r.symbol ∙ ap (λ b. places_at r.symbol rs ++ (if b then more else [])) e ∙ ap (λ l. l ++ []) h.1, k)

  pub noted_notes : more ≢ [] → (rows : List Row) → Notes rows for_one (noted s more rows)
  noted_notes n rows = record { at = noted_at rows; distinct = noted_distinct n rows }

  -- in the row that is found, or at the end
  pub noted_found : (rows : List Row) (r : Row) → position s rows < length rows → noted s more rows ≡ set rows (position s rows) (extended (get_or rows (position s rows) r) more)
  noted_found [] d l = absurd (omega (arith, l))
  noted_found (r ∷ rs) d l = go (same_symbol r.symbol s) refl (noted_found rs d)
    where
      go : (a : Bool) → same_symbol r.symbol s ≡ a → (position s rs < length rs → noted s more rs ≡ set rs (position s rs) (extended (get_or rs (position s rs) d) more)) → noted s more (r ∷ rs) ≡ set (r ∷ rs) (position s (r ∷ rs)) (extended (get_or (r ∷ rs) (position s (r ∷ rs)) d) more)
      go true p k = rw p refl
      go false p k = rw p (ap (λ l. r ∷ l) (k (let w = rw p at l in omega (arith, w))))

  pub noted_new : (rows : List Row) → length rows ≤ position s rows → noted s more rows ≡ rows ++ record { symbol = s; places = more } ∷ []
  noted_new [] l = refl
  noted_new (r ∷ rs) l = go (same_symbol r.symbol s) refl (noted_new rs)
    where
      go : (a : Bool) → same_symbol r.symbol s ≡ a → (length rs ≤ position s rs → noted s more rs ≡ rs ++ record { symbol = s; places = more } ∷ []) → noted s more (r ∷ rs) ≡ (r ∷ rs) ++ record { symbol = s; places = more } ∷ []
      go true p k = let w = rw p at l in absurd (omega (arith, w))
      go false p k = rw p (ap (λ l. r ∷ l) (k (let w = rw p at l in omega (arith, w))))

-- nothing noted, one after another, and the same in other words
pub notes_none : (rows : List Row) → Notes rows (λ s. []) rows
notes_none rows = record { at = λ s. sym (append-nil (places_at s rows)); distinct = λ h. h }

pub notes_then : (a b c : List Row) (F G : Symbol → List ℕ) → Notes a F b → Notes b G c → Notes a (λ s. F s ++ G s) c
notes_then a b c F G h k = record {
  at = λ s. k.at s ∙ ap (λ l. l ++ G s) (h.at s) ∙ append_assoc (places_at s a) (F s) (G s);
  distinct = λ e. k.distinct (h.distinct e);
}

pub notes_same : (a b : List Row) (F G : Symbol → List ℕ) → ((s : Symbol) → F s ≡ G s) → Notes a F b → Notes a G b
notes_same a b F G e h = record { at = λ s. h.at s ∙ ap (λ l. places_at s a ++ l) (e s); distinct = h.distinct }

-- each row has what is looked up for its symbol
pub distinct_each : (rows : List Row) → AreDistinct rows → (r : Row) → Contains rows r → (r.places ≡ places_at r.symbol rows) × (r.places ≢ [])
distinct_each [] h r m = absurd (contains_none r m)
distinct_each (q ∷ rs) h r m = go (contains_cases q rs r m) (λ n. distinct_each rs h.2 r n)
  where
    Right : Row → Type 0
    Right z = (z.places ≡ places_at z.symbol (q ∷ rs)) × (z.places ≢ [])

    here : Right q
    here = rw (same_symbol_itself q.symbol) (refl, h.0)

    later : (a : Bool) → same_symbol q.symbol r.symbol ≡ a → (r.places ≡ places_at r.symbol rs) × (r.places ≢ []) → Right r
    later true p k = absurd (k.1 (k.0 ∙ subst (λ z. places_at z rs ≡ []) (same_symbol_is q.symbol r.symbol p) h.1))
    later false p k = rw p k

    go : (q ≡ r) ⊎ Contains rs r → (Contains rs r → (r.places ≡ places_at r.symbol rs) × (r.places ≢ [])) → Right r
    go (inl e) k = subst Right e here
    go (inr n) k = later (same_symbol q.symbol r.symbol) refl (k n)

-- what has places has a row
pub at_every : (rows : List Row) (s : Symbol) → places_at s rows ≢ [] → (r : Row) × Contains rows r × (r.symbol ≡ s)
at_every [] s n = absurd (n refl)
at_every (q ∷ rs) s n = go (same_symbol q.symbol s) refl (at_every rs s)
  where
    go : (a : Bool) → same_symbol q.symbol s ≡ a → (places_at s rs ≢ [] → (r : Row) × Contains rs r × (r.symbol ≡ s)) → (r : Row) × Contains (q ∷ rs) r × (r.symbol ≡ s)
    go true p k = (q, contains_here q rs, same_symbol_is q.symbol s p)
    go false p k = let w = k (λ e. n (rw p e)) in (w.0, contains_later q rs w.0 w.1, w.2)

-- where the search for a row stands
dropped : {A : Type 0} (l : List A) (i : ℕ) (x : A) → i < length l → x ≡ get_or l i x → drop i l ≡ x ∷ drop (i + 1) l
dropped l i x within is = rw add-one (drop-cons l i x within) ∙ ap (λ u. u ∷ drop (i + 1) l) (sym is)

module _ (s : Symbol) (rows : List Row) (i : ℕ) (r : Row) (within : i < length rows) (is : r ≡ get_or rows i r) (left : position s rows ≡ i + position s (drop i rows)) where
  here_or_later : position s rows ≡ i + position s (r ∷ drop (i + 1) rows)
  here_or_later = left ∙ ap (λ l. i + position s l) (dropped rows i r within is)

  pub position_here : same_symbol r.symbol s ≡ true → i ≡ position s rows
  position_here same = let e : position s (r ∷ drop (i + 1) rows) ≡ 0 = rw same refl in let k = here_or_later in omega (arith, k, e)

  pub position_later : same_symbol r.symbol s ≡ false → position s rows ≡ (i + 1) + position s (drop (i + 1) rows)
  position_later other = let e : position s (r ∷ drop (i + 1) rows) ≡ suc (position s (drop (i + 1) rows)) = rw other refl in let k = here_or_later in omega (arith, k, e)

-- one copy, and more
pub copies_first : (more place : ℕ) (old : List ℕ) → (old ++ place ∷ []) ++ replicate more place ≡ old ++ replicate (more + 1) place
copies_first more place old = append_assoc old (place ∷ []) (replicate more place) ∙ ap (λ n. old ++ replicate n place) (suc_is more)
  where
    suc_is : (n : ℕ) → suc n ≡ n + 1
    suc_is n = omega arith

pub copies_some : (n i : ℕ) → replicate (n + 1) i ≢ []
copies_some n i e = let k : replicate (suc n) i ≡ [] = ap (λ m. replicate m i) (let q : suc n ≡ n + 1 = omega arith in q) ∙ e in cc

-- a row of these
abbrev pub row_with : Symbol → List ℕ → Row
row_with s l = record { symbol = s; places = l }

module _ (s : Symbol) (more : List ℕ) (rows : List Row) where
  -- a row that is found, and a new one
  pub found_row : (at : ℕ) (r : Row) (new : List ℕ) → at ≡ position s rows → at < length rows → r ≡ get_or rows at r → new ≡ r.places ++ more → set rows at (row_with r.symbol new) ≡ noted s more rows
  found_row at r new e l is n =
      let k = noted_found s more rows r (subst (λ i. i < length rows) e l) in
      let w : extended (get_or rows (position s rows) r) more ≡ row_with r.symbol new = ap (λ z. extended z more) (sym (is ∙ ap (λ i. get_or rows i r) e)) ∙ ap (row_with r.symbol) (sym n) in
      ap (λ i. set rows i (row_with r.symbol new)) e ∙ sym (k ∙ ap (λ z. set rows (position s rows) z) w)

  pub new_row : (at : ℕ) (new : List ℕ) → at ≡ position s rows → length rows ≤ at → new ≡ more → rows ++ row_with s new ∷ [] ≡ noted s more rows
  new_row at new e l n = ap (λ z. rows ++ row_with s z ∷ []) n ∙ sym (noted_new s more rows (subst (λ i. length rows ≤ i) e l))

  -- what was noted
  pub own_noted : (after : List Row) → after ≡ noted s more rows → more ≢ [] → Notes rows (for_one s more) after
  own_noted after e n = subst (Notes rows (for_one s more)) (sym e) (noted_notes s more n rows)
