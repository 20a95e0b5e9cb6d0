-- The rows of a system one after another, and what a refusal says.
use Rattle.std.proofs.Common.{◌≡◌, ℕ, ◌+◌, ◌<◌, ◌≤◌, ◌↔◌, ℤ, List, [], ◌∷◌, ◌++◌, Ok, Err, Result, length, get_or, take, refl, sym, ap, ◌∙◌, subst, arith}
use Rattle.smallvec.specs.SmallVec.{SmallVec}
use Rattle.std.specs.Prelude.{unsigned_abs}
use Rattle.std.specs.List.{All, AllPairs, Contains}
use Rattle.std.proofs.lemmas.List.{get_or-map, length-map, take-map, take_more}
use Rattle.std.proofs.lemmas.List.Elements.{All-take}
use Rattle.fvn_base.specs.Order.{IsBefore}
use Rattle.fvn_lindio.specs.Systems.{IsMinimal, IsSystem, rows_of, coefficients_of}
use Rattle.fvn_lindio.specs.Refusals.{NoneShorter, IsTooMany, IsTooWide}
use Rattle.fvn_lindio.specs.inner.Generators.{IsRow, vectors_in}
use Rattle.fvn_lindio.specs.declared.system.System.{System}
use Rattle.fvn_lindio.specs.declared.system.Row.{Row}
use Rattle.fvn_lindio.specs.declared.system.LinFault.{LinFault}
use Rattle.fvn_lindio.specs.declared.system.LinFault.TheVariants.{TooMany, TooWide}
use Rattle.fvn_base.proofs.MappedLists.{all_mapped_at}
use Rattle.fvn_lindio.proofs.Prefixes.{IsBasis, same_many, same_wide, not_both, none_many, none_wide}

-- the coefficients are those of the row at k, as the code reads them
pub record IsRowAt (s : System) (rows : List Row) (k : ℕ) (x : Row) (r : List ℤ) : Type 0 where
  pub system : IsSystem s
  pub whole : rows ≡ s.rows
  pub within : k < length rows
  pub is : x ≡ get_or rows k x
  pub read : r ≡ (get_or rows k x).coefficients

module _ {s : System} {rows : List Row} {k : ℕ} {x : Row} {r : List ℤ} (at : IsRowAt s rows k x r) where
  row : r ≡ x.coefficients
  row = at.read ∙ ap (λ z. z.coefficients) (sym at.is)

  within_rows : k < length s.rows
  within_rows = subst (λ z. k < length z) at.whole at.within

  is_row : x ≡ get_or s.rows k x
  is_row = subst (λ z. x ≡ get_or z k x) at.whole at.is

  pub row_sized : length r ≡ s.columns
  row_sized = all_mapped_at (λ z. z.coefficients) (λ z. length z ≡ s.columns) s.rows k x r within_rows is_row row at.system.sized

  pub row_allowed : IsRow (length r) r
  row_allowed =
      record {
        sized = refl;
        few = omega (arith, row_sized, at.system.columns);
        bounded = all_mapped_at (λ z. z.coefficients) (All (λ c. unsigned_abs c ≤ 65535)) s.rows k x r within_rows is_row row at.system.bounded;
      }

  pub before_sized : All (λ z. length z.coefficients ≡ length r) (take k rows)
  before_sized = All-take (λ z. length z.coefficients ≡ length r) k rows (subst (All (λ z. length z.coefficients ≡ length r)) (sym at.whole) each)
    where
      each : All (λ z. length z.coefficients ≡ length r) s.rows
      each i d l = ap length (sym (get_or-map (λ z. z.coefficients) s.rows i d d.coefficients l)) ∙ (at.system.sized i d.coefficients (omega (arith, l, length-map s.rows (λ z. z.coefficients))) ∙ sym row_sized)

  before_is : coefficients_of (take k rows) ≡ take k (rows_of s)
  before_is = sym (take-map (λ z. z.coefficients) k rows) ∙ ap (λ z. take k (coefficients_of z)) at.whole

  pub within_coefficients : k < length (rows_of s)
  within_coefficients = omega (arith, within_rows, length-map s.rows (λ z. z.coefficients))

  one_more : take k (rows_of s) ++ (r ∷ []) ≡ take (k + 1) (rows_of s)
  one_more =
      ap (λ z. take k (rows_of s) ++ (z ∷ [])) (row ∙ (ap (λ z. z.coefficients) is_row ∙ sym (get_or-map (λ z. z.coefficients) s.rows k x r within_rows)))
      ∙ sym (take_more (rows_of s) k r within_coefficients)

  -- what is known of the rows before, as the row's search takes it
  pub known_before : (known items : List (SmallVec ℕ)) → items ≡ known → ((v : List ℕ) → Contains (vectors_in known) v ↔ IsMinimal s.columns (take k (rows_of s)) v) → (v : List ℕ) → Contains (vectors_in items) v ↔ IsMinimal (length r) (coefficients_of (take k rows)) v
  known_before known items e h =
      subst (λ cs. (v : List ℕ) → Contains (vectors_in items) v ↔ IsMinimal (length r) cs v) (sym before_is)
      (subst (λ n. (v : List ℕ) → Contains (vectors_in items) v ↔ IsMinimal n (take k (rows_of s)) v) (sym row_sized)
      (subst (λ z. (v : List ℕ) → Contains (vectors_in z) v ↔ IsMinimal s.columns (take k (rows_of s)) v) (sym e) h))

  -- and as it gives it back
  pub basis_after : (most : ℕ) (list : List (List ℕ)) → ((v : List ℕ) → Contains list v ↔ IsMinimal (length r) (coefficients_of (take k rows) ++ (r ∷ [])) v) → AllPairs IsBefore list → IsBasis s.columns (rows_of s) most (k + 1) list
  basis_after most list h ordered =
      record {
        exact =
            subst (λ cs. (v : List ℕ) → Contains list v ↔ IsMinimal s.columns cs v) one_more
            (subst (λ cs. (v : List ℕ) → Contains list v ↔ IsMinimal s.columns (cs ++ (r ∷ [])) v) before_is
            (subst (λ n. (v : List ℕ) → Contains list v ↔ IsMinimal n (coefficients_of (take k rows) ++ (r ∷ [])) v) row_sized h));
        ordered = ordered;
      }

-- the answer is this one
abbrev pub Says : (A : Type 0) → Result A LinFault → Result A LinFault → Type 0
Says A r f = r ≡ f

module _ {A : Type 0} {columns : ℕ} {rows : List (List ℤ)} {most k : ℕ} where
  pub many_by_many : IsTooMany columns rows most k → (j : ℕ) → Says A (Err (TooMany k)) (Err (TooMany j)) ↔ IsTooMany columns rows most j
  many_by_many h j = (λ e. let f : k ≡ j = cc in subst (IsTooMany columns rows most) f h, λ g. ap (λ n. Err (TooMany n)) (same_many columns rows most k j h g))

  pub wide_by_many : IsTooMany columns rows most k → (j : ℕ) → Says A (Err (TooMany k)) (Err (TooWide j)) ↔ IsTooWide columns rows most j
  wide_by_many h j = (λ e. absurd (cc), λ g. absurd (not_both columns rows most k j h g))

  pub many_by_wide : IsTooWide columns rows most k → (j : ℕ) → Says A (Err (TooWide k)) (Err (TooMany j)) ↔ IsTooMany columns rows most j
  many_by_wide h j = (λ e. absurd (cc), λ g. absurd (not_both columns rows most j k g h))

  pub wide_by_wide : IsTooWide columns rows most k → (j : ℕ) → Says A (Err (TooWide k)) (Err (TooWide j)) ↔ IsTooWide columns rows most j
  wide_by_wide h j = (λ e. let f : k ≡ j = cc in subst (IsTooWide columns rows most) f h, λ g. ap (λ n. Err (TooWide n)) (same_wide columns rows most k j h g))

module _ {A : Type 0} (columns : ℕ) (rows : List (List ℤ)) (most : ℕ) where
  pub many_by_none : (a : A) (k : ℕ) → length rows ≤ k → NoneShorter columns rows most (k + 1) → (j : ℕ) → Says A (Ok a) (Err (TooMany j)) ↔ IsTooMany columns rows most j
  many_by_none a k l h j = (λ e. absurd (cc), λ g. absurd (none_many columns rows most k j l h g))

  pub wide_by_none : (a : A) (k : ℕ) → length rows ≤ k → NoneShorter columns rows most (k + 1) → (j : ℕ) → Says A (Ok a) (Err (TooWide j)) ↔ IsTooWide columns rows most j
  wide_by_none a k l h j = (λ e. absurd (cc), λ g. absurd (none_wide columns rows most k j l h g))
