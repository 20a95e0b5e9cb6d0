-- Minimal solutions that are zero in marked columns: those of the system with a row more.
use Rattle.std.proofs.Common.{◌≡◌, ◌⊎◌, ℕ, zero, suc, ◌+◌, ◌*◌, ◌≤◌, ℤ, pos, List, [], ◌∷◌, length, get_or, reverse, refl, sym, ap, ◌∙◌, subst, arith, All, Contains, inl, inr}
use Rattle.std.specs.Prelude.{◌↔◌, unsigned_abs}
use Rattle.std.proofs.lemmas.List.Elements.{All-cons, All-head, All-tail, All-weaker}
use Rattle.fvn_lindio.specs.Vectors.{IsAtOrBelow, IsNonZero}
use Rattle.fvn_lindio.specs.declared.system.System.{System}
use Rattle.fvn_lindio.specs.declared.system.Row.{Row}
use Rattle.fvn_lindio.specs.Systems.{above, below, up, down, IsZeroAt, Solves, IsMinimal, IsSystem, coefficients_of, rows_of}
use Rattle.fvn_combine_candidates.specs.inner.Alive.{IsMarking, IsMarked}
use Rattle.fvn_combine_candidates.proofs.Turned.{contains_reverse, contains_back, all_over, coefficients_over}

-- a mark or none
abbrev pub IsMark : ℤ → Type 0
IsMark c = (c ≡ pos 0) ⊎ (c ≡ pos 1)

mark_below : (c : ℤ) → IsMark c → below c ≡ 0
mark_below c (inl e) = ap below e
mark_below c (inr e) = ap below e

mark_zero : (c : ℤ) (a : ℕ) → IsMark c → (c ≡ pos 1 → a ≡ 0) → above c * a ≡ 0
mark_zero c a (inl e) h =
    let n : above c ≡ 0 = ap above e in
    let p : above c * a ≡ 0 * a = ap (λ k. k * a) n in
    omega (arith, p)
mark_zero c a (inr e) h =
    let p : above c * a ≡ above c * 0 = ap (λ k. above c * k) (h e) in
    omega (arith, p)

mark_small : (c : ℤ) → IsMark c → unsigned_abs c ≤ 65535
mark_small c (inl e) = let n : unsigned_abs c ≡ 0 = ap unsigned_abs e in omega (arith, n)
mark_small c (inr e) = let n : unsigned_abs c ≡ 1 = ap unsigned_abs e in omega (arith, n)

pub mark_at : (row : List ℤ) → All IsMark row → (j : ℕ) → IsMark (get_or row j (pos 0))
mark_at [] h j = inl refl
mark_at (c ∷ row) h zero = All-head IsMark c row h
mark_at (c ∷ row) h (suc j) = mark_at row (All-tail IsMark c row h) j

-- marks take nothing
marks_down : (row : List ℤ) (v : List ℕ) → All IsMark row → down row v ≡ 0
marks_down [] v h = refl
marks_down (c ∷ row) [] h = refl
marks_down (c ∷ row) (a ∷ v) h =
    let rest = marks_down row v (All-tail IsMark c row h) in
    let p : below c * a ≡ 0 * a = ap (λ k. k * a) (mark_below c (All-head IsMark c row h)) in
    omega (arith, p, rest)

-- and give nothing where the vector is zero in the marked columns
marks_up : (row : List ℤ) (v : List ℕ) → All IsMark row → ((j : ℕ) → get_or row j (pos 0) ≡ pos 1 → get_or v j 0 ≡ 0) → up row v ≡ 0
marks_up [] v h z = refl
marks_up (c ∷ row) [] h z = refl
marks_up (c ∷ row) (a ∷ v) h z =
    let here = mark_zero c a (All-head IsMark c row h) (λ e. z 0 e) in
    let rest = marks_up row v (All-tail IsMark c row h) (λ j e. z (suc j) e) in
    omega (arith, here, rest)

-- and there alone
up_marks : (row : List ℤ) (v : List ℕ) → up row v ≡ 0 → (j : ℕ) → get_or row j (pos 0) ≡ pos 1 → get_or v j 0 ≡ 0
up_marks [] v u j e = let f : 0 ≡ 1 = ap above e in absurd (omega (arith, f))
up_marks (c ∷ row) [] u j e = refl
up_marks (c ∷ row) (a ∷ v) u zero e =
    let p : above c * a ≡ 1 * a = ap (λ k. above k * a) e in
    omega (arith, p, u)
up_marks (c ∷ row) (a ∷ v) u (suc j) e = up_marks row v (omega (arith, u)) j e

pub zero_where : (row : List ℤ) (v : List ℕ) → All IsMark row → ((j : ℕ) → get_or row j (pos 0) ≡ pos 1 → get_or v j 0 ≡ 0) → IsZeroAt v row
zero_where row v h z = marks_up row v h z ∙ sym (marks_down row v h)

zero_in : (row : List ℤ) (v : List ℕ) → All IsMark row → IsZeroAt v row → (j : ℕ) → get_or row j (pos 0) ≡ pos 1 → get_or v j 0 ≡ 0
zero_in row v h z = up_marks row v (z ∙ marks_down row v h)

part_below : (x y : List ℕ) (j : ℕ) → IsAtOrBelow x y → get_or x j 0 ≤ get_or y j 0
part_below [] [] j h = omega arith
part_below [] (b ∷ y) j h = absurd h
part_below (a ∷ x) [] j h = absurd h
part_below (a ∷ x) (b ∷ y) zero h = h.0
part_below (a ∷ x) (b ∷ y) (suc j) h = part_below x y j h.1

-- what is below a vector that is zero there is zero there
zero_below : (row : List ℤ) (x y : List ℕ) → All IsMark row → IsAtOrBelow x y → IsZeroAt y row → IsZeroAt x row
zero_below row x y h b z =
    zero_where row x h (λ j e. let l = part_below x y j b in let n = zero_in row y h z j e in omega (arith, l, n))

module _ (s t : System) (row : Row) (is : IsMarked s row t) (marking : IsMarking s.columns row.coefficients) where
  -- what the row has, and all rows of the system, all have that are made
  all_marked : (P : List ℤ → Type 0) → P row.coefficients → All P (rows_of s) → All P (rows_of t)
  all_marked P here all =
      subst (λ rows. All P (coefficients_of rows)) (sym is.rows)
      (All-cons P row.coefficients (coefficients_of (reverse s.rows)) here
      (all_over P (rows_of s) (coefficients_of (reverse s.rows)) (λ r c. coefficients_over (reverse s.rows) s.rows (λ x m. contains_back s.rows x m) r c) all))

  own : (P : List ℤ → Type 0) → All P (rows_of t) → P row.coefficients × All P (rows_of s)
  own P all =
      let h = subst (λ rows. All P (coefficients_of rows)) is.rows all in (
        All-head P row.coefficients (coefficients_of (reverse s.rows)) h,
        all_over P (coefficients_of (reverse s.rows)) (rows_of s) (λ r c. coefficients_over s.rows (reverse s.rows) (λ x m. contains_reverse s.rows x m) r c) (All-tail P row.coefficients (coefficients_of (reverse s.rows)) h),
      )

  solves_own : (v : List ℕ) → Solves t.columns (rows_of t) v → Solves s.columns (rows_of s) v × IsZeroAt v row.coefficients
  solves_own v h =
      let zeroes = own (IsZeroAt v) h.zero_rows in (
        record {
          sized = h.sized ∙ is.columns;
          zero_rows = zeroes.1;
          unused = λ j u. elim (mark_at row.coefficients marking.marks j) [
            | inl e ↦ h.unused j (all_marked (λ r. get_or r j (pos 0) ≡ pos 0) e u)
            | inr e ↦ zero_in row.coefficients v marking.marks zeroes.0 j e
          ];
        },
        zeroes.0,
      )

  solves_marked : (v : List ℕ) → Solves s.columns (rows_of s) v → IsZeroAt v row.coefficients → Solves t.columns (rows_of t) v
  solves_marked v h z = record {
    sized = h.sized ∙ sym is.columns;
    zero_rows = all_marked (IsZeroAt v) z h.zero_rows;
    unused = λ j u. h.unused j (own (λ r. get_or r j (pos 0) ≡ pos 0) u).1;
  }

  pub marked_minimal : (v : List ℕ) → IsMinimal t.columns (rows_of t) v ↔ IsMinimal s.columns (rows_of s) v × IsZeroAt v row.coefficients
  marked_minimal v = (
    λ m.
        let h = solves_own v m.solves in
        (record { solves = h.0; nonzero = m.nonzero; least = λ y k n b. m.least y (solves_marked y k (zero_below row.coefficients y v marking.marks b h.1)) n b }, h.1),
    λ h. record { solves = solves_marked v h.0.solves h.1; nonzero = h.0.nonzero; least = λ y k n b. h.0.least y (solves_own y k).0 n b },
  )

  pub marked_fits : IsSystem s → IsSystem t
  marked_fits h = record {
    columns = subst (λ n. n ≤ 1000) (sym is.columns) h.columns;
    sized = all_marked (λ (r : List ℤ). length r ≡ t.columns) (marking.sized ∙ sym is.columns) (subst (λ n. All (λ (r : List ℤ). length r ≡ n) (rows_of s)) (sym is.columns) h.sized);
    bounded = all_marked (λ (r : List ℤ). All (λ c. unsigned_abs c ≤ 65535) r) (All-weaker IsMark (λ c. unsigned_abs c ≤ 65535) mark_small row.coefficients marking.marks) h.bounded;
  }
