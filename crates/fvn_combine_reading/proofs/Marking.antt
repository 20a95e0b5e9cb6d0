-- Rows that use a column.
use Rattle.std.proofs.Common.{◌≡◌, ◌≢◌, ℕ, ◌+◌, ◌<◌, List, length, get_or, sym, ap, ◌∙◌, subst, inl, inr, arith, All}
use Rattle.std.specs.Prelude.{ℤ, pos}
use Rattle.std.proofs.lemmas.Bool.{cases_lt}
use Rattle.std.proofs.lemmas.List.{get_or-map, length-map}
use Rattle.fvn_lindio.specs.declared.system.Row.{Row}
use Rattle.fvn_lindio.specs.Systems.{coefficients_of}

-- the coefficients of a row
abbrev coefficients : Row → List ℤ
coefficients row = row.coefficients

coefficients_at : (rows : List Row) (i : ℕ) (item : Row) (e : List ℤ) → i < length rows → item ≡ get_or rows i item → get_or (coefficients_of rows) i e ≡ coefficients item
coefficients_at rows i item e l at = get_or-map coefficients rows i item e l ∙ ap coefficients (sym at)

-- a row is long enough where all are
pub row_long : (rows : List Row) (j : ℕ) → All (λ row. j < length row) (coefficients_of rows) → (i : ℕ) (item : Row) → i < length rows → item ≡ get_or rows i item → j < length item.coefficients
row_long rows j h i item l at =
    let n = length-map rows coefficients in
    subst (λ row. j < length row) (coefficients_at rows i item item.coefficients l at) (h i item.coefficients (omega (arith, l, n)))

-- one more row that does not use the column
pub none_more : (rows : List Row) (j i : ℕ) (item : Row) → i < length rows → item ≡ get_or rows i item → (get_or item.coefficients j (pos 0) ≢ pos 0 → ⊥) → ((k : ℕ) (row : List ℤ) → k < i → get_or (coefficients_of rows) k row ≡ row → get_or row j (pos 0) ≢ pos 0 → ⊥) →
    (k : ℕ) (row : List ℤ) → k < i + 1 → get_or (coefficients_of rows) k row ≡ row → get_or row j (pos 0) ≢ pos 0 → ⊥
none_more rows j i item l at none h k row b is other = elim (cases_lt k i) [
  | inl below ↦ h k row below is other
  | inr above ↦
      let here : k ≡ i = omega arith in
      let same : item.coefficients ≡ row = sym (coefficients_at rows i item row l at) ∙ ap (λ n. get_or (coefficients_of rows) n row) (sym here) ∙ is in
      none (subst (λ r. get_or r j (pos 0) ≢ pos 0) (sym same) other)
]
