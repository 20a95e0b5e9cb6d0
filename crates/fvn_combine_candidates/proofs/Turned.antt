-- Systems with their rows in another order have the same minimal solutions.
use Rattle.std.proofs.Common.{◌≡◌, ℕ, ◌+◌, ◌-◌, ◌<◌, ℤ, pos, List, [], ◌∷◌, ◌++◌, length, take, get_or, reverse, slice_index_or, sym, ap, ◌∙◌, subst, arith, All, Contains, inl, inr}
use Rattle.std.specs.Prelude.{◌↔◌, unsigned_abs, ◌≤◌}
use Rattle.std.proofs.lemmas.List.{append_assoc, length-reverse, get_or-reverse, reverse-reverse, take_more}
use Rattle.std.proofs.lemmas.List.Elements.{All-contains, All-weaker, All-contains_itself, Contains-append_right, Contains-append_cases}
use Rattle.fvn_base.specs.declared.limits.TheConstants.{COMPONENT}
use Rattle.fvn_base.proofs.Membership.{map_contains, contains_map}
use Rattle.fvn_lindio.specs.Vectors.{IsAtOrBelow, IsNonZero}
use Rattle.fvn_lindio.specs.declared.system.System.{System}
use Rattle.fvn_lindio.specs.declared.system.Row.{Row}
use Rattle.fvn_lindio.specs.Systems.{IsZeroAt, IsUnused, Solves, IsMinimal, IsSystem, coefficients_of, rows_of}
use Rattle.fvn_combine_candidates.specs.inner.Turned.{IsTurned}

-- one more from the end
pub one_turned : {A : Type 0} (xs : List A) (i : ℕ) (d : A) → i < length xs → take (i + 1) (reverse xs) ≡ take i (reverse xs) ++ get_or xs (length xs - 1 - i) d ∷ []
one_turned xs i d l =
    let long = length-reverse xs in
    take_more (reverse xs) i d (omega (arith, l, long)) ∙ ap (λ x. take i (reverse xs) ++ x ∷ []) (get_or-reverse xs i d l)

-- the same after others
pub more_turned : {A : Type 0} (front xs : List A) (i : ℕ) (d : A) → i < length xs
    → (front ++ take i (reverse xs)) ++ get_or xs (length xs - 1 - i) d ∷ [] ≡ front ++ take (i + 1) (reverse xs)
more_turned front xs i d l =
    append_assoc front (take i (reverse xs)) (get_or xs (length xs - 1 - i) d ∷ []) ∙ ap (λ ys. front ++ ys) (sym (one_turned xs i d l))

-- what stands in a list stands in it turned round
pub contains_reverse : {A : Type 0} (xs : List A) (x : A) → Contains xs x → Contains (reverse xs) x
contains_reverse xs x c =
    let l = c.1 in
    let k = length xs - 1 - c.0 in
    let long = length-reverse xs in
    let back : length xs - 1 - k ≡ c.0 = omega (arith, l) in
    (k, omega (arith, l, long), get_or-reverse xs k x (omega (arith, l)) ∙ ap (λ n. get_or xs n x) back ∙ c.2)

-- what all have of one list, all have of another that holds no others
pub all_over : {A : Type 0} (P : A → Type 0) (xs ys : List A) → ((x : A) → Contains ys x → Contains xs x) → All P xs → All P ys
all_over P xs ys from all = All-weaker (Contains ys) P (λ x m. All-contains P xs x all (from x m)) ys (All-contains_itself ys)

-- rows that hold the same ones have the same solutions
solves_over : (columns : ℕ) (xs ys : List (List ℤ)) → ((r : List ℤ) → Contains xs r ↔ Contains ys r) → (v : List ℕ) → Solves columns xs v → Solves columns ys v
solves_over columns xs ys same v h = record {
  sized = h.sized;
  zero_rows = all_over (IsZeroAt v) xs ys (λ r. (same r).1) h.zero_rows;
  unused = λ j none. h.unused j (all_over (λ row. slice_index_or row j (pos 0) ≡ pos 0) ys xs (λ r. (same r).0) none);
}

-- and so the same minimal ones
minimal_over : (columns : ℕ) (xs ys : List (List ℤ)) → ((r : List ℤ) → Contains xs r ↔ Contains ys r) → (v : List ℕ) → IsMinimal columns xs v → IsMinimal columns ys v
minimal_over columns xs ys same v h = record {
  solves = solves_over columns xs ys same v h.solves;
  nonzero = h.nonzero;
  least = λ y s n below. h.least y (solves_over columns ys xs (λ r. ((same r).1, (same r).0)) y s) n below;
}

-- what stands in a list turned round stands in it
pub contains_back : {A : Type 0} (xs : List A) (x : A) → Contains (reverse xs) x → Contains xs x
contains_back xs x c = subst (λ ys. Contains ys x) (reverse-reverse xs) (contains_reverse (reverse xs) x c)

-- the coefficients of rows that stand in a list stand in its own
pub coefficients_over : (xs ys : List Row) → ((row : Row) → Contains xs row → Contains ys row) → (r : List ℤ) → Contains (coefficients_of xs) r → Contains (coefficients_of ys) r
coefficients_over xs ys from r c =
    let m = map_contains (λ (row : Row). row.coefficients) xs r c in
    subst (Contains (coefficients_of ys)) m.1.1 (contains_map (λ (row : Row). row.coefficients) ys m.0 (from m.0 m.1.0))

-- some of the rows of a system are a system
pub left_fits : (s t : System) → t.columns ≡ s.columns → All (Contains s.rows) t.rows → IsSystem s → IsSystem t
left_fits s t columns among h = record {
  columns = subst (λ n. n ≤ 1000) (sym columns) h.columns;
  sized = all_over (λ (row : List ℤ). length row ≡ t.columns) (rows_of s) (rows_of t) from (subst (λ n. All (λ (row : List ℤ). length row ≡ n) (rows_of s)) (sym columns) h.sized);
  bounded = all_over (λ (row : List ℤ). All (λ c. unsigned_abs c ≤ COMPONENT) row) (rows_of s) (rows_of t) from h.bounded;
}
  where
    from : (r : List ℤ) → Contains (rows_of t) r → Contains (rows_of s) r
    from r c = coefficients_over t.rows s.rows (λ row m. All-contains (Contains s.rows) t.rows row among m) r c

module _ (s t : System) (turned : IsTurned s t) where
  -- each row of the one is a row of the other
  turned_back : (row : Row) → Contains t.rows row → Contains s.rows row
  turned_back row c =
      elim (Contains-append_cases turned.front (reverse s.rows) row (subst (λ rows. Contains rows row) turned.rows c)) [
        | inl early ↦ All-contains (Contains s.rows) turned.front row turned.among early
        | inr later ↦ contains_back s.rows row later
      ]

  turned_into : (row : Row) → Contains s.rows row → Contains t.rows row
  turned_into row c =
      subst (λ rows. Contains rows row) (sym turned.rows) (Contains-append_right turned.front (reverse s.rows) row (contains_reverse s.rows row c))

  same_rows : (r : List ℤ) → Contains (rows_of s) r ↔ Contains (rows_of t) r
  same_rows r = (coefficients_over s.rows t.rows turned_into r, coefficients_over t.rows s.rows turned_back r)

  pub turned_fits : IsSystem s → IsSystem t
  turned_fits h = left_fits s t turned.columns (All-weaker (Contains t.rows) (Contains s.rows) turned_back t.rows (All-contains_itself t.rows)) h

  pub turned_minimal : (v : List ℕ) → IsMinimal t.columns (rows_of t) v ↔ IsMinimal s.columns (rows_of s) v
  turned_minimal v = (
    λ h. minimal_over s.columns (rows_of t) (rows_of s) (λ r. ((same_rows r).1, (same_rows r).0)) v (subst (λ n. IsMinimal n (rows_of t) v) turned.columns h),
    λ h. subst (λ n. IsMinimal n (rows_of t) v) (sym turned.columns) (minimal_over s.columns (rows_of s) (rows_of t) same_rows v h),
  )
