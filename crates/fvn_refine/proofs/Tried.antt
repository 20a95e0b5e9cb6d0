-- The search for rows: the sorts that were tried for a variable, and what is found for terms.
use Rattle.std.proofs.Common.{◌≡◌, ℕ, ◌+◌, ◌<◌, ◌⊎◌, Bool, true, false, List, [], ◌∷◌, refl, sym, ap, subst, ◌∙◌, inl, inr, arith}
use Rattle.std.specs.List.{Contains}
use Rattle.std.specs.Prelude.{if◌then◌else◌, ◌&&◌}
use Rattle.std.proofs.lemmas.Bool.{and_parts, and_from, true≢false, cases_order}
use Rattle.fvn_base.proofs.Membership.{contains_none}
use Rattle.fvn_terms.specs.declared.plain.Var.{Var}
use Rattle.fvn_terms.specs.declared.plain.SortId.{SortId}
use Rattle.fvn_terms.specs.declared.declarations.Declarations.{Declarations}
use Rattle.fvn_terms.specs.Signature.{kind, AtOrBelow, same}
use Rattle.fvn_forms.specs.SortOrder.{sort_number, at_or_below}
use Rattle.fvn_forms.specs.Flat.{fvar}
use Rattle.fvn_forms.specs.Good.{IsGood}
use Rattle.fvn_forms.proofs.SortOrder.{AtOrBelow-one_kind}
use Rattle.fvn_forms.proofs.SortTests.{at_or_below-true, at_or_below-complete}
use Rattle.fvn_forms.proofs.Results.{AllBelow-self}
use Rattle.fvn_signature.specs.Queries.{IsCompleted}
use Rattle.fvn_flat.specs.Variables.{listed}
use Rattle.fvn_refine.specs.inner.Rows.{Row, placed, way_of, IsRow, IsRowBelow, HasAbove, IsAntichain, with_row}
use Rattle.fvn_refine.specs.inner.Found.{Finds, IsUnder}
use Rattle.fvn_refine.proofs.RowTests.{with_row-from, with_row-new, with_row-above, with_row-apart, none_apart, above-lower}
use Rattle.fvn_refine.proofs.Ways.{beside_else, beside_placed, beside_below, placed_below, placed_above, placed_row, way_kind, row_long, declared_or_same}
use Rattle.fvn_refine.proofs.Finding.{finds_here, finds_none}

-- the sort of a number is below the next number, or is this one
sort_cases : (n : ℕ) (z : SortId) → z.0 < n + 1 → (z.0 < n) ⊎ (sort_number n ≡ z)
sort_cases n z l = elim (cases_order n z.0) [
  | inl e ↦ inr (ap sort_number e)
  | inr (inl h) ↦ absurd (omega arith)
  | inr (inr h) ↦ inl h
]

module _ (d : Declarations) (xs : List Var) (way : Row) (y : Var) (now s : SortId) where
  -- the sorts with numbers below n were tried beside y
  pub record HasTried (n : ℕ) (rows : List Row) : Type 0 where
    pub from : (r : Row) → Contains rows r → (z : SortId) × ((z.0 < n) × (AtOrBelow d z now × (AtOrBelow d z s × (placed xs way y z ≡ r))))
    pub over : (z : SortId) → z.0 < n → AtOrBelow d z now → AtOrBelow d z s → HasAbove d rows (placed xs way y z)
    pub apart : IsAntichain d rows

  pub tried_none : HasTried 0 []
  tried_none = record { from = λ r c. absurd (contains_none r c); over = λ z l. absurd (omega arith); apart = none_apart d }

  pub tried_more : (n : ℕ) (rows all : List Row) → HasTried n rows → all ≡ (if at_or_below d (sort_number n) now && at_or_below d (sort_number n) s then with_row d rows (placed xs way y (sort_number n)) else rows) → HasTried (n + 1) all
  tried_more n rows all h e = subst (HasTried (n + 1)) (sym e) (go (at_or_below d (sort_number n) now && at_or_below d (sort_number n) s) refl)
    where
      old : (r : Row) → Contains rows r → (z : SortId) × ((z.0 < n + 1) × (AtOrBelow d z now × (AtOrBelow d z s × (placed xs way y z ≡ r))))
      old r c = let f = h.from r c in let l : f.0.0 < n = f.1.0 in (f.0, (omega arith, f.1.1))

      go : (b : Bool) → (at_or_below d (sort_number n) now && at_or_below d (sort_number n) s) ≡ b → HasTried (n + 1) (if b then with_row d rows (placed xs way y (sort_number n)) else rows)
      go true p =
          let both = and_parts (at_or_below d (sort_number n) now) (at_or_below d (sort_number n) s) p in
          record {
            from = λ r c. elim (with_row-from d rows (placed xs way y (sort_number n)) r c) [
              | inl o ↦ old r o
              | inr f ↦ (sort_number n, (omega arith, (at_or_below-true d (sort_number n) now both.0, (at_or_below-true d (sort_number n) s both.1, f))))
            ];
            over = λ z l a b. elim (sort_cases n z l) [
              | inl o ↦ with_row-above d rows (placed xs way y (sort_number n)) (placed xs way y z) (h.over z o a b)
              | inr f ↦ subst (λ q. HasAbove d (with_row d rows (placed xs way y (sort_number n))) (placed xs way y q)) f (with_row-new d rows (placed xs way y (sort_number n)))
            ];
            apart = with_row-apart d rows (placed xs way y (sort_number n)) h.apart;
          }
      go false p = record {
        from = old;
        over = λ z l a b. elim (sort_cases n z l) [
          | inl o ↦ h.over z o a b
          | inr f ↦ absurd (true≢false (sym (and_from (at_or_below d (sort_number n) now) (at_or_below d (sort_number n) s) (at_or_below-complete d (subst (λ q. AtOrBelow d q now) (sym f) a)) (at_or_below-complete d (subst (λ q. AtOrBelow d q s) (sym f) b))) ∙ p))
        ];
        apart = h.apart;
      }

  -- the property of the rows that are looked for
  abbrev pub IsLowered : Row → Type 0
  IsLowered m = IsRowBelow d m way × IsUnder d xs (fvar y) s m

  module _ (row : IsRow d xs way) (now_is : now ≡ way_of d xs way y) where
    pub lowered_here : AtOrBelow d now s → (rows : List Row) → rows ≡ way ∷ [] → Finds d xs IsLowered rows
    lowered_here under rows e =
        subst (Finds d xs IsLowered) (sym e)
        (finds_here d xs IsLowered way row (AllBelow-self d way, subst (λ q. AtOrBelow d q s) now_is under) (λ m i p. p.0))

    pub lowered_none : (AtOrBelow d now s → ⊥) → listed xs y ≡ false → Finds d xs IsLowered []
    lowered_none over out = finds_none d xs IsLowered (λ m h p. over (subst (λ q. AtOrBelow d q s) (beside_else xs m y (kind d y.sort) out ∙ sym (beside_else xs way y (kind d y.sort) out) ∙ sym now_is) p.1))

    pub lowered_tried : IsGood d → IsCompleted d → (AtOrBelow d now s → ⊥) → listed xs y ≡ true → (rows : List Row) → HasTried d.sorts rows → Finds d xs IsLowered rows
    lowered_tried good completed over place rows h = record {
      found = λ r c. let f = h.from r c in subst (λ q. IsRow d xs q × IsLowered q) f.1.1.1.1 (placed_well f.0 f.1.0 f.1.1.0 f.1.1.1.0);
      covers = λ m i p. covered m i p;
      apart = h.apart;
    }
      where
        placed_well : (z : SortId) → z.0 < d.sorts → AtOrBelow d z now → AtOrBelow d z s → IsRow d xs (placed xs way y z) × IsLowered (placed xs way y z)
        placed_well z l a b = (
          placed_row d xs way y z row (completed.sort_listed z l) (AtOrBelow-one_kind d good.kinded a ∙ ap (kind d) now_is ∙ way_kind d good.kinded xs way y row),
          (
            placed_below d xs way y z (kind d y.sort) (subst (AtOrBelow d z) now_is a),
            subst (λ q. AtOrBelow d q s) (sym (beside_placed xs way y z (kind d y.sort) (row_long d xs way row) place)) b,
          ),
        )

        covered : (m : Row) → IsRow d xs m → IsLowered m → HasAbove d rows m
        covered m i p = go (declared_or_same d good.kinded completed z now below)
          where
            z : SortId
            z = way_of d xs m y

            below : AtOrBelow d z now
            below = subst (AtOrBelow d z) (sym now_is) (beside_below d xs m way y (kind d y.sort) p.0)

            go : (z.0 < d.sorts) ⊎ (z ≡ now) → HasAbove d rows m
            go (inl l) = above-lower d rows m (placed xs way y z) (placed_above d xs m way y z (kind d y.sort) p.0 same) (h.over z l below p.1)
            go (inr e) = absurd (over (subst (λ q. AtOrBelow d q s) e p.1))
