-- Lists of options that agree up to a place are passed at once.
use Rattle.std.proofs.Common.{◌≡◌, ℕ, suc, zero, ◌+◌, ◌<◌, ◌≤◌, ◌⊎◌, Bool, true, false, not, if◌then◌else◌, List, [], ◌∷◌, length, get_or, Option, Some, None, IsTrue, inl, inr, refl, sym, ◌∙◌, ap, subst, arith}
use Rattle.std.specs.List.{AllZip}
use Rattle.std.proofs.lemmas.Bool.{cases_order}
use Rattle.std.proofs.lemmas.List.{get_or_past}
use Rattle.std.proofs.lemmas.Slice.Zip.{AllZip-long}
use Rattle.fvn_base.specs.Order.{IsBefore}
use Rattle.fvn_base.proofs.Order.{before_trans}
use Rattle.fvn_acunify_product.specs.ToCome.{IsAtOrBefore, IsToCome}
use Rattle.fvn_acunify_product.specs.Tags.{IsOption, AgreesUpTo}
use Rattle.fvn_acunify_product.specs.inner.Steps.{IsNext, IsEnd}
use Rattle.fvn_acunify_product.specs.inner.Skips.{IsLowered, IsNextAfter, IsEndAfter}
use Rattle.fvn_acunify_product.proofs.Stepping.{AllZip-at, AllZip-from_each}

-- the places that are set to 0, and all past the end
pub lowered : (from : ℕ) (old new : List ℕ) → length new ≡ length old → ((k : ℕ) → k < from → get_or new k 0 ≡ get_or old k 0) → ((k : ℕ) → from ≤ k → k < length old → get_or new k 0 ≡ 0) → IsLowered from old new
lowered from old new s front least = record { as_many = s; front = front; least = λ k f. go k f (cases_order k (length old)) }
  where
    go : (k : ℕ) → from ≤ k → (k ≡ length old) ⊎ ((k < length old) ⊎ (length old < k)) → get_or new k 0 ≡ 0
    go k f (inl e) = get_or_past new k 0 (omega (arith, e, s))
    go k f (inr (inl l)) = least k f l
    go k f (inr (inr l)) = get_or_past new k 0 (omega (arith, l, s))

-- a list with no greater number is the same, or comes before
low_is_at_or_before : (low old : List ℕ) → length low ≡ length old → ((k : ℕ) → get_or low k 0 ≤ get_or old k 0) → (low ≡ old) ⊎ IsBefore low old
low_is_at_or_before [] [] s h = inl refl
low_is_at_or_before [] (o ∷ old) s h = absurd (omega (arith, s))
low_is_at_or_before (l ∷ low) [] s h = absurd (omega (arith, s))
low_is_at_or_before (l ∷ low) (o ∷ old) s h =
    let here : l ≤ o = h 0 in
    go (cases_order l o) here (low_is_at_or_before low old (omega (arith, s)) (λ k. h (suc k)))
  where
    go : (l ≡ o) ⊎ ((l < o) ⊎ (o < l)) → l ≤ o → (low ≡ old) ⊎ IsBefore low old → ((l ∷ low) ≡ (o ∷ old)) ⊎ ((l < o) ⊎ ((l ≡ o) × IsBefore low old))
    go (inr (inl b)) most rest = inr (inl b)
    go (inr (inr b)) most rest = absurd (omega arith)
    go (inl e) most (inl f) = inl (cc)
    go (inl e) most (inr b) = inr (inr (e, b))

-- a list with no smaller number does not come before
no_less : (low x : List ℕ) → length x ≡ length low → ((k : ℕ) → get_or low k 0 ≤ get_or x k 0) → IsBefore x low → ⊥
no_less [] [] s h b = b
no_less [] (a ∷ x) s h b = absurd (omega (arith, s))
no_less (l ∷ low) [] s h b = absurd (omega (arith, s))
no_less (l ∷ low) (a ∷ x) s h (inl less) =
    let most : l ≤ a = h 0 in absurd (omega (arith, less, most))
no_less (l ∷ low) (a ∷ x) s h (inr e) = no_less low x (omega (arith, s)) (λ k. h (suc k)) e.1

one_more : (n a o : ℕ) (x old : List ℕ) → a ≡ o → ((k : ℕ) → k < n → get_or x k 0 ≡ get_or old k 0) → (k : ℕ) → k < suc n → get_or (a ∷ x) k 0 ≡ get_or (o ∷ old) k 0
one_more n a o x old e same zero l = e
one_more n a o x old e same (suc k) l = same k (omega (arith, l))

-- a list before the old one has the same front, or comes before each list with that front
agrees_or_before : (n : ℕ) (old low x : List ℕ) → length low ≡ length old → length x ≡ length old → ((k : ℕ) → k < n → get_or low k 0 ≡ get_or old k 0) → IsBefore x old → ((k : ℕ) → k < n → get_or x k 0 ≡ get_or old k 0) ⊎ IsBefore x low
agrees_or_before zero old low x s r f b = inl (λ k l. absurd (omega (arith, l)))
agrees_or_before (suc n) [] low [] s r f b = absurd b
agrees_or_before (suc n) [] low (a ∷ x) s r f b = absurd (omega (arith, r))
agrees_or_before (suc n) (o ∷ old) [] x s r f b = absurd (omega (arith, s))
agrees_or_before (suc n) (o ∷ old) (l ∷ low) [] s r f b = absurd (omega (arith, r))
agrees_or_before (suc n) (o ∷ old) (l ∷ low) (a ∷ x) s r f (inl less) =
    let e : l ≡ o = f 0 (omega arith) in inr (inl (omega (arith, less, e)))
agrees_or_before (suc n) (o ∷ old) (l ∷ low) (a ∷ x) s r f (inr e) =
    go (f 0 (omega arith)) (agrees_or_before n old low x (omega (arith, s)) (omega (arith, r)) (λ k h. f (suc k) (omega (arith, h))) e.1)
  where
    go : l ≡ o → ((k : ℕ) → k < n → get_or x k 0 ≡ get_or old k 0) ⊎ IsBefore x low → ((k : ℕ) → k < suc n → get_or (a ∷ x) k 0 ≡ get_or (o ∷ old) k 0) ⊎ ((a < l) ⊎ ((a ≡ l) × IsBefore x low))
    go g (inl same) = inl (one_more n a o x old e.0 same)
    go g (inr b) = inr (inr (e.0 ∙ sym g, b))

module _ (counts old low : List ℕ) (place : ℕ) (h : AllZip IsOption counts old) (is : IsLowered (place + 1) old low) where
  low_is_under : (k : ℕ) → get_or low k 0 ≤ get_or old k 0
  low_is_under k = go (cases_order k (place + 1))
    where
      go : (k ≡ place + 1) ⊎ ((k < place + 1) ⊎ (place + 1 < k)) → get_or low k 0 ≤ get_or old k 0
      go (inl e) = let z = is.least k (omega (arith, e)) in omega (arith, z)
      go (inr (inl l)) = let s = is.front k l in omega (arith, s)
      go (inr (inr l)) = let z = is.least k (omega (arith, l)) in omega (arith, z)

  pub low_has_options : AllZip IsOption counts low
  low_has_options = AllZip-from_each IsOption counts low (is.as_many ∙ AllZip-long IsOption counts old h) (λ k l d.
      let below : get_or old k 0 < get_or counts k d = AllZip-at IsOption counts old h k l d in
      let under = low_is_under k in
      omega (arith, below, under))

  as_many_as_old : (x : List ℕ) → AllZip IsOption counts x → length x ≡ length old
  as_many_as_old x may = AllZip-long IsOption counts x may ∙ sym (AllZip-long IsOption counts old h)

  agrees_or_low : (x : List ℕ) → AllZip IsOption counts x → IsAtOrBefore (Some old) x → AgreesUpTo place (Some old) x ⊎ IsBefore x low
  agrees_or_low x may (inl e) = inl (λ k l. ap (λ y. get_or y k 0) e)
  agrees_or_low x may (inr b) = elim (agrees_or_before (place + 1) old low x is.as_many (as_many_as_old x may) is.front b) [
    | inl same ↦ inl (λ k l. same k (omega (arith, l)))
    | inr less ↦ inr less
  ]

  agreeing_is_over : (x : List ℕ) → AgreesUpTo place (Some old) x → (k : ℕ) → get_or low k 0 ≤ get_or x k 0
  agreeing_is_over x agrees k = go (cases_order k (place + 1))
    where
      go : (k ≡ place + 1) ⊎ ((k < place + 1) ⊎ (place + 1 < k)) → get_or low k 0 ≤ get_or x k 0
      go (inl e) = let z = is.least k (omega (arith, e)) in omega (arith, z)
      go (inr (inl l)) =
          let s = is.front k l in
          let a : get_or x k 0 ≡ get_or old k 0 = agrees k (omega (arith, l)) in
          omega (arith, s, a)
      go (inr (inr l)) = let z = is.least k (omega (arith, l)) in omega (arith, z)

  -- what comes before 0 at each later place is next after all that agree
  pub next_after : (new : List ℕ) → IsNext IsOption counts low new → IsNextAfter counts place old new
  next_after new n = record {
    options = n.0.0;
    before = elim (low_is_at_or_before low old is.as_many low_is_under) [
      | inl e ↦ subst (λ y. IsBefore new y) e n.0.1
      | inr b ↦ before_trans new low old n.0.1 b
    ];
    rest = λ x may b. elim (agrees_or_low x may b) [
      | inl agrees ↦ inl agrees
      | inr less ↦ inr (n.1 x (may, less))
    ];
    passed = λ x may b agrees. no_less low x (as_many_as_old x may ∙ sym is.as_many) (agreeing_is_over x agrees) (is_low x b);
  }
    where
      is_low : (x : List ℕ) → IsAtOrBefore (Some new) x → IsBefore x low
      is_low x (inl e) = subst (λ y. IsBefore y low) (sym e) n.0.1
      is_low x (inr b) = before_trans x new low b n.0.1

  pub end_after : IsEnd IsOption counts low → IsEndAfter counts place old
  end_after end x may b = elim (agrees_or_low x may b) [
    | inl agrees ↦ agrees
    | inr less ↦ absurd (end x may less)
  ]

rest_after : (ps old new : List ℕ) (place : ℕ) (found : Bool) → (IsTrue found → IsNextAfter ps place old new) → (found ≡ false → IsEndAfter ps place old) → (x : List ℕ) → IsToCome IsOption ps (Some old) x → AgreesUpTo place (Some old) x ⊎ IsToCome IsOption ps (if not found then None else Some new) x
rest_after ps old new place true next end x h = elim ((next refl).rest x h.0 h.1) [
  | inl agrees ↦ inl agrees
  | inr b ↦ inr (h.0, b)
]
rest_after ps old new place false next end x h = inl (end refl x h.0 h.1)

-- what was to come agrees with the list that stood there, or is still to come
pub rest_by_skip : (ps kept qs : List ℕ) (now : Option (List ℕ)) (before old new items : List ℕ) (place : ℕ) (found : Bool) → ps ≡ kept → kept ≡ qs → now ≡ Some before → before ≡ old → items ≡ new → (IsTrue found → IsNextAfter qs place old new) → (found ≡ false → IsEndAfter qs place old) → (x : List ℕ) → IsToCome IsOption ps now x → AgreesUpTo place now x ⊎ IsToCome IsOption kept (if not found then None else Some items) x
rest_by_skip ps kept qs now before old new items place found e f k b g next end x = rw (e, f, k, b, g) (rest_after qs old new place found next end x)

kept_after : (ps old new : List ℕ) (place : ℕ) (found : Bool) → (IsTrue found → IsNextAfter ps place old new) → (x : List ℕ) → IsToCome IsOption ps (if not found then None else Some new) x → IsToCome IsOption ps (Some old) x
kept_after ps old new place false next x h = absurd h.1
kept_after ps old new place true next x (may, inl e) = (may, inr (subst (λ y. IsBefore y old) (sym e) (next refl).before))
kept_after ps old new place true next x (may, inr b) = (may, inr (before_trans x new old b (next refl).before))

-- what is still to come was so
pub kept_by_skip : (ps kept qs : List ℕ) (now : Option (List ℕ)) (before old new items : List ℕ) (place : ℕ) (found : Bool) → ps ≡ kept → kept ≡ qs → now ≡ Some before → before ≡ old → items ≡ new → (IsTrue found → IsNextAfter qs place old new) → (x : List ℕ) → IsToCome IsOption kept (if not found then None else Some items) x → IsToCome IsOption ps now x
kept_by_skip ps kept qs now before old new items place found e f k b g next x = rw (e, f, k, b, g) (kept_after qs old new place found next x)

passed_after : (ps old new : List ℕ) (place : ℕ) (found : Bool) → (IsTrue found → IsNextAfter ps place old new) → (x : List ℕ) → IsToCome IsOption ps (if not found then None else Some new) x → AgreesUpTo place (Some old) x → ⊥
passed_after ps old new place false next x h agrees = h.1
passed_after ps old new place true next x h agrees = (next refl).passed x h.0 h.1 agrees

-- what agrees with the list that stood there is not to come again
pub passed_by_skip : (kept qs : List ℕ) (now : Option (List ℕ)) (before old new items : List ℕ) (place : ℕ) (found : Bool) → kept ≡ qs → now ≡ Some before → before ≡ old → items ≡ new → (IsTrue found → IsNextAfter qs place old new) → (x : List ℕ) → IsToCome IsOption kept (if not found then None else Some items) x → AgreesUpTo place now x → ⊥
passed_by_skip kept qs now before old new items place found f k b g next x = rw (f, k, b, g) (passed_after qs old new place found next x)

-- the numbers that a skip found are options, and come before those that stood there
pub found_by_skip : (kept qs before old new : List ℕ) (place : ℕ) (found : Bool) → kept ≡ qs → before ≡ old → (IsTrue found → IsNextAfter qs place old new) → IsTrue found → AllZip IsOption kept new × IsBefore new before
found_by_skip kept qs before old new place found k b next = rw (k, b) (λ t. ((next t).options, (next t).before))
