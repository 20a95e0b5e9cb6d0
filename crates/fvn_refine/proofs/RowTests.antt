-- Rows in lists of them: tests, and what is kept when more are added.
use Rattle.std.proofs.Common.{◌≡◌, ◌↔◌, ◌⊎◌, Bool, true, false, not, List, [], ◌∷◌, ◌++◌, length, refl, sym, ap, subst, ◌∙◌, inl, inr, arith, IsTrue}
use Rattle.std.specs.List.{Contains, filter, list_any}
use Rattle.std.specs.Prelude.{if◌then◌else◌, ◌||◌, ◌&&◌, ◌≢◌}
use Rattle.std.proofs.lemmas.Bool.{and_parts, and_from, false≢true, true≢false, not-true}
use Rattle.std.proofs.lemmas.List.Elements.{Contains-append_left, Contains-push, Contains-push_cases}
use Rattle.fvn_base.proofs.Membership.{contains_here, contains_later, contains_cases, contains_none, filter_contains, contains_filter}
use Rattle.fvn_terms.specs.declared.plain.SortId.{SortId}
use Rattle.fvn_terms.specs.declared.declarations.Declarations.{Declarations}
use Rattle.fvn_terms.specs.Signature.{AtOrBelow}
use Rattle.fvn_forms.specs.SortOrder.{at_or_below}
use Rattle.fvn_forms.specs.Ranks.{pass_together}
use Rattle.fvn_forms.proofs.Results.{AllBelow-trans, AllBelow-self}
use Rattle.fvn_forms.proofs.SortTests.{at_or_below-true, at_or_below-complete}
use Rattle.fvn_refine.specs.inner.Rows.{Row, IsRowBelow, is_row_below, HasAbove, IsAntichain, with_row, with_rows}

-- a test of two lists fails where they are not as long
pub pass_together-length : (test : SortId → SortId → Bool) (ss qs : Row) → length ss ≢ length qs → pass_together test ss qs ≡ false
pass_together-length test [] [] n = absurd (n refl)
pass_together-length test [] (q ∷ qs) n = refl
pass_together-length test (s ∷ ss) [] n = refl
pass_together-length test (s ∷ ss) (q ∷ qs) n = go (test s q) (pass_together-length test ss qs (λ e. n (omega (arith, e))))
  where
    go : (b : Bool) → pass_together test ss qs ≡ false → (b && pass_together test ss qs) ≡ false
    go true r = r
    go false r = refl

module _ {A : Type 0} (p : A → Bool) where
  pub any_true : (xs : List A) → list_any p xs ≡ true → (x : A) × (Contains xs x × (p x ≡ true))
  any_true [] e = absurd (false≢true e)
  any_true (x ∷ xs) e = go (p x) refl (any_true xs)
    where
      go : (b : Bool) → p x ≡ b → (list_any p xs ≡ true → (y : A) × (Contains xs y × (p y ≡ true))) → (y : A) × (Contains (x ∷ xs) y × (p y ≡ true))
      go true h rest = (x, (contains_here x xs, h))
      go false h rest = let r = rest (ap (λ b. b || list_any p xs) (sym h) ∙ e) in (r.0, (contains_later x xs r.0 r.1.0, r.1.1))

  pub any_false : (xs : List A) → list_any p xs ≡ false → (x : A) → Contains xs x → p x ≡ false
  any_false [] e x c = absurd (contains_none x c)
  any_false (y ∷ xs) e x c = go (p y) refl (any_false xs)
    where
      go : (b : Bool) → p y ≡ b → (list_any p xs ≡ false → (z : A) → Contains xs z → p z ≡ false) → p x ≡ false
      go true h rest = absurd (true≢false (ap (λ b. b || list_any p xs) (sym h) ∙ e))
      go false h rest = elim (contains_cases y xs x c) [
        | inl q ↦ subst (λ z. p z ≡ false) q h
        | inr i ↦ rest (ap (λ b. b || list_any p xs) (sym h) ∙ e) x i
      ]

module _ (d : Declarations) where
  -- a test that tells what holds is the test of the definition
  pub below_test : (s q : SortId) (r : Bool) → IsTrue r ↔ AtOrBelow d s q → r ≡ at_or_below d s q
  below_test s q true h = sym (at_or_below-complete d (h.0 refl))
  below_test s q false h = go (at_or_below d s q) refl
    where
      go : (b : Bool) → at_or_below d s q ≡ b → false ≡ at_or_below d s q
      go true e = absurd (false≢true (h.1 (at_or_below-true d s q e)))
      go false e = sym e

  pub row_below-true : (ss qs : Row) → is_row_below d ss qs ≡ true → IsRowBelow d ss qs
  row_below-true [] [] h = tt
  row_below-true [] (q ∷ qs) h = absurd (false≢true h)
  row_below-true (s ∷ ss) [] h = absurd (false≢true h)
  row_below-true (s ∷ ss) (q ∷ qs) h =
      let p = and_parts (at_or_below d s q) (is_row_below d ss qs) h in
      (at_or_below-true d s q p.0, row_below-true ss qs p.1)

  pub row_below-complete : (ss qs : Row) → IsRowBelow d ss qs → is_row_below d ss qs ≡ true
  row_below-complete [] [] h = refl
  row_below-complete [] (q ∷ qs) h = absurd h
  row_below-complete (s ∷ ss) [] h = absurd h
  row_below-complete (s ∷ ss) (q ∷ qs) h = and_from (at_or_below d s q) (is_row_below d ss qs) (at_or_below-complete d h.0) (row_below-complete ss qs h.1)

  pub row_below-false : (ss qs : Row) → is_row_below d ss qs ≡ false → IsRowBelow d ss qs → ⊥
  row_below-false ss qs e h = true≢false (sym (row_below-complete ss qs h) ∙ e)

  -- what is below a row that one is above has one above
  pub above-lower : (rows : List Row) (m n : Row) → IsRowBelow d m n → HasAbove d rows n → HasAbove d rows m
  above-lower rows m n h a = (a.0, (a.1.0, AllBelow-trans d m n a.0 h a.1.1))

  pub above-member : (rows : List Row) (m : Row) → Contains rows m → HasAbove d rows m
  above-member rows m c = (m, (c, AllBelow-self d m))

  module _ (rows : List Row) (row : Row) where
    abbrev kept : List Row
    kept = filter (λ r. not (is_row_below d r row)) rows

    -- the rows with one more are of these
    pub with_row-from : (q : Row) → Contains (with_row d rows row) q → Contains rows q ⊎ (row ≡ q)
    with_row-from q c = go (list_any (is_row_below d row) rows) c
      where
        go : (b : Bool) → Contains (if b then rows else kept ++ row ∷ []) q → Contains rows q ⊎ (row ≡ q)
        go true c = inl c
        go false c = elim (Contains-push_cases kept row q c) [
          | inl k ↦ inl (filter_contains (λ r. not (is_row_below d r row)) rows q k).0
          | inr e ↦ inr e
        ]

    -- each of these has one at or above it
    pub with_row-new : HasAbove d (with_row d rows row) row
    with_row-new = go (list_any (is_row_below d row) rows) refl
      where
        go : (b : Bool) → list_any (is_row_below d row) rows ≡ b → HasAbove d (if b then rows else kept ++ row ∷ []) row
        go true e = let a = any_true (is_row_below d row) rows e in (a.0, (a.1.0, row_below-true row a.0 a.1.1))
        go false e = (row, (Contains-push kept row, AllBelow-self d row))

    pub with_row-old : (q : Row) → Contains rows q → HasAbove d (with_row d rows row) q
    with_row-old q c = go (list_any (is_row_below d row) rows)
      where
        stays : (b : Bool) → is_row_below d q row ≡ b → HasAbove d (kept ++ row ∷ []) q
        stays true e = (row, (Contains-push kept row, row_below-true q row e))
        stays false e = (q, (Contains-append_left kept (row ∷ []) q (contains_filter (λ r. not (is_row_below d r row)) rows q c (ap not e)), AllBelow-self d q))

        go : (b : Bool) → HasAbove d (if b then rows else kept ++ row ∷ []) q
        go true = (q, (c, AllBelow-self d q))
        go false = stays (is_row_below d q row) refl

    -- what has one at or above it keeps one
    pub with_row-above : (m : Row) → HasAbove d rows m → HasAbove d (with_row d rows row) m
    with_row-above m a = above-lower (with_row d rows row) m a.0 a.1.1 (with_row-old a.0 a.1.0)

    -- none comes below another
    pub with_row-apart : IsAntichain d rows → IsAntichain d (with_row d rows row)
    with_row-apart h = go (list_any (is_row_below d row) rows) refl
      where
        go : (b : Bool) → list_any (is_row_below d row) rows ≡ b → IsAntichain d (if b then rows else kept ++ row ∷ [])
        go true e = h
        go false e = λ r q cr cq below. both r q below (Contains-push_cases kept row r cr) (Contains-push_cases kept row q cq)
          where
            member : (r : Row) → Contains kept r → Contains rows r × (is_row_below d r row ≡ false)
            member r k = let f = filter_contains (λ r. not (is_row_below d r row)) rows r k in (f.0, not-true (is_row_below d r row) f.1)

            both : (r q : Row) → IsRowBelow d r q → Contains kept r ⊎ (row ≡ r) → Contains kept q ⊎ (row ≡ q) → r ≡ q
            both r q below (inl k) (inl l) = h r q (member r k).0 (member q l).0 below
            both r q below (inl k) (inr f) = absurd (row_below-false r row (member r k).1 (subst (IsRowBelow d r) (sym f) below))
            both r q below (inr g) (inl l) = absurd (row_below-false row q (any_false (is_row_below d row) rows e q (member q l).0) (subst (λ z. IsRowBelow d z q) (sym g) below))
            both r q below (inr g) (inr f) = sym g ∙ f

  -- several more
  pub with_rows-push : (rows more : List Row) (row : Row) → with_rows d rows (more ++ row ∷ []) ≡ with_row d (with_rows d rows more) row
  with_rows-push rows [] row = refl
  with_rows-push rows (m ∷ more) row = with_rows-push (with_row d rows m) more row

  pub with_rows-from : (rows more : List Row) (q : Row) → Contains (with_rows d rows more) q → Contains rows q ⊎ Contains more q
  with_rows-from rows [] q c = inl c
  with_rows-from rows (m ∷ more) q c = elim (with_rows-from (with_row d rows m) more q c) [
    | inl k ↦ elim (with_row-from rows m q k) [ inl l ↦ inl l | inr e ↦ inr (subst (Contains (m ∷ more)) e (contains_here m more)) ]
    | inr k ↦ inr (contains_later m more q k)
  ]

  pub with_rows-above : (rows more : List Row) (m : Row) → HasAbove d rows m → HasAbove d (with_rows d rows more) m
  with_rows-above rows [] m a = a
  with_rows-above rows (n ∷ more) m a = with_rows-above (with_row d rows n) more m (with_row-above rows n m a)

  pub with_rows-new : (rows more : List Row) (m : Row) → HasAbove d more m → HasAbove d (with_rows d rows more) m
  with_rows-new rows [] m a = absurd (contains_none a.0 a.1.0)
  with_rows-new rows (n ∷ more) m a = elim (contains_cases n more a.0 a.1.0) [
    | inl e ↦ with_rows-above (with_row d rows n) more m (above-lower (with_row d rows n) m n (subst (IsRowBelow d m) (sym e) a.1.1) (with_row-new rows n))
    | inr k ↦ with_rows-new (with_row d rows n) more m (a.0, (k, a.1.1))
  ]

  pub with_rows-apart : (rows more : List Row) → IsAntichain d rows → IsAntichain d (with_rows d rows more)
  with_rows-apart rows [] h = h
  with_rows-apart rows (n ∷ more) h = with_rows-apart (with_row d rows n) more (with_row-apart rows n h)

  pub none_apart : IsAntichain d []
  none_apart r q c k below = absurd (contains_none r c)

  pub one_apart : (row : Row) → IsAntichain d (row ∷ [])
  one_apart row r q c k below = elim (contains_cases row [] r c) [
    | inl e ↦ elim (contains_cases row [] q k) [ inl f ↦ sym e ∙ f | inr l ↦ absurd (contains_none q l) ]
    | inr l ↦ absurd (contains_none r l)
  ]

  -- an empty list has no member
  pub no_member : (rows : List Row) (row : Row) → length rows ≡ 0 → Contains rows row → ⊥
  no_member [] row e c = contains_none row c
  no_member (r ∷ rows) row e c = omega (arith, e)
