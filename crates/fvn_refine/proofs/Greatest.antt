-- The greatest row with a property, and what is found with it.
use Rattle.std.proofs.Common.{◌≡◌, ℕ, ◌+◌, ◌<◌, ◌≤◌, ◌⊎◌, true, List, [], ◌∷◌, Some, sym, ap, subst, ◌∙◌, inl, inr, arith}
use Rattle.std.specs.List.{Contains, slice_get}
use Rattle.std.specs.Prelude.{Option, None, IfSome}
use Rattle.std.proofs.lemmas.Option.{slice_get_within, slice_get-get_or, get_or_from_slice_get}
use Rattle.std.proofs.lemmas.Bool.{cases_order}
use Rattle.fvn_base.proofs.Membership.{contains_here, contains_cases, contains_none}
use Rattle.fvn_terms.specs.declared.plain.Var.{Var}
use Rattle.fvn_terms.specs.declared.plain.SortId.{SortId}
use Rattle.fvn_terms.specs.declared.declarations.Rank.{Rank}
use Rattle.fvn_terms.specs.declared.declarations.Declarations.{Declarations}
use Rattle.fvn_terms.specs.Signature.{kind, IsSort, AtOrBelow, same, HasKind}
use Rattle.fvn_forms.specs.Flat.{FlatTerm, fvar, plain}
use Rattle.fvn_forms.specs.Good.{IsGood}
use Rattle.fvn_forms.specs.LeastSort.{sort_in}
use Rattle.fvn_forms.specs.Settled.{Settled}
use Rattle.fvn_forms.proofs.LeastSort.{sort_in-kind}
use Rattle.fvn_forms.proofs.SortOrder.{AtOrBelow-kind, AtOrBelow-one_kind}
use Rattle.fvn_forms.proofs.Results.{AllBelow-self}
use Rattle.fvn_signature.specs.Queries.{IsCompleted}
use Rattle.fvn_flat.specs.Variables.{listed}
use Rattle.fvn_refine.specs.inner.Rows.{Row, placed, way_of, IsRow, IsRowBelow, HasAbove}
use Rattle.fvn_refine.specs.inner.Found.{AreArguments, Finds, IsUnder}
use Rattle.fvn_refine.specs.inner.Greatest.{IsGreatest, IsFirstLow, AreServed, IsTopLow}
use Rattle.fvn_refine.proofs.Ways.{beside_placed, placed_below, placed_above, placed_row, way_kind, way_keeps, row_long, declared_or_same}
use Rattle.fvn_refine.proofs.Finding.{ForOne, finds_here, finds_same}

-- what holds of what there is
pub if_some : {A : Type 0} (o : Option A) (P Q : A → Type 0) → ((a : A) → P a → Q a) → IfSome o P → IfSome o Q
if_some None P Q there h = tt
if_some (Some a) P Q there h = there a h

same_item : {A : Type 0} (l : List A) (i : ℕ) (a b : A) → slice_get l i ≡ Some a → slice_get l i ≡ Some b → a ≡ b
same_item l i a b e f = let q : Some a ≡ Some b = sym e ∙ f in cc

only_item : {A : Type 0} (a b : A) → Contains (a ∷ []) b → a ≡ b
only_item a b c = elim (contains_cases a [] b c) [ inl e ↦ e | inr n ↦ absurd (contains_none b n) ]

module _ (d : Declarations) (xs : List Var) where
  -- what is at or below one row
  only_above : (way m : Row) → HasAbove d (way ∷ []) m → IsRowBelow d m way
  only_above way m a = subst (IsRowBelow d m) (sym (only_item way a.0 a.1.0)) a.1.1

  module _ (way : Row) (P : Row → Type 0) where
    pub greatest_itself : IsRow d xs way → P way → IsGreatest d xs way P way
    greatest_itself i p = record { is_row = i; below = AllBelow-self d way; has = p; over = λ m j b q. b }

    module _ (row : Row) where
      pub greatest_found : IsGreatest d xs way P row → Finds d xs (λ m. IsRowBelow d m way × P m) (row ∷ [])
      greatest_found g = finds_here d xs (λ m. IsRowBelow d m way × P m) row g.is_row (g.below, g.has) (λ m i p. g.over m i p.0 p.1)

      pub greatest_above : IsGreatest d xs way P row → Finds d xs (λ m. HasAbove d (way ∷ []) m × P m) (row ∷ [])
      greatest_above g =
          finds_here d xs (λ m. HasAbove d (way ∷ []) m × P m) row g.is_row ((way, (contains_here way [], g.below)), g.has)
          (λ m i p. g.over m i (only_above way m p.0) p.1)

      pub found_greatest : Finds d xs (λ m. IsRowBelow d m way × P m) (row ∷ []) → IsGreatest d xs way P row
      found_greatest h =
          let f = h.found row (contains_here row []) in
          record { is_row = f.0; below = f.1.0; has = f.1.1; over = λ m i b p. only_above row m (h.covers m i (b, p)) }

  -- what is found for one list of arguments, where there is no other
  pub one_list : (P : Row → Row → Type 0) (args : Row) (rows : List Row) → Finds d xs (P args) rows → Finds d xs (ForOne d xs P (args ∷ []) (args ∷ [])) rows
  one_list P args rows h =
      finds_same d xs (P args) (ForOne d xs P (args ∷ []) (args ∷ []))
      (λ m i p. (args, (contains_here args [], p)))
      (λ m i q. subst (λ (a : Row). P a m) (sym (only_item args q.0 q.1.0)) q.1.1) rows h

  module _ (good : IsGood d) (way : Row) (row : IsRow d xs way) where
    -- a variable whose sort is lowered to another one
    module _ (y : Var) (now s : SortId) (now_is : now ≡ way_of d xs way y) where
      pub place_here : AtOrBelow d now s → IsGreatest d xs way (IsUnder d xs (fvar y) s) way
      place_here under = greatest_itself way (IsUnder d xs (fvar y) s) row (subst (λ q. AtOrBelow d q s) now_is under)

      module _ (completed : IsCompleted d) (over : AtOrBelow d now s → ⊥) (low : AtOrBelow d s now) where
        declared : IsSort d s
        declared = go (declared_or_same d good.kinded completed s now low) where
          go : (s.0 < d.sorts) ⊎ (s ≡ now) → IsSort d s
          go (inl l) = completed.sort_listed s l
          go (inr e) = absurd (over (subst (λ q. AtOrBelow d q s) e same))

        pub place_lowered : listed xs y ≡ true → (lower : Row) → lower ≡ placed xs way y s → IsGreatest d xs way (IsUnder d xs (fvar y) s) lower
        place_lowered place lower e = subst (IsGreatest d xs way (IsUnder d xs (fvar y) s)) (sym e) (record {
          is_row = placed_row d xs way y s row declared (AtOrBelow-one_kind d good.kinded low ∙ ap (kind d) now_is ∙ way_kind d good.kinded xs way y row);
          below = placed_below d xs way y s (kind d y.sort) (subst (AtOrBelow d s) now_is low);
          has = subst (λ q. AtOrBelow d q s) (sym (beside_placed xs way y s (kind d y.sort) (row_long d xs way row) place)) same;
          over = λ m i b p. placed_above d xs m way y s (kind d y.sort) b p;
        })

    -- each row gives a term its kind
    pub kind_here : (t : FlatTerm) (s : SortId) → Settled d t → HasKind d (plain t) (kind d s) → kind d s ≡ s → IsGreatest d xs way (IsUnder d xs t s) way
    kind_here t s h k is =
        greatest_itself way (IsUnder d xs t s) row
        (subst (AtOrBelow d (sort_in d (way_of d xs way) t)) (sort_in-kind d good (way_of d xs way) (way_keeps d good.kinded xs way row) t h (kind d s) k ∙ is)
        (AtOrBelow-kind d (sort_in d (way_of d xs way) t)))

module _ (d : Declarations) (s : SortId) (ranks : List Rank) where
  -- one more rank is passed
  pub none_passed : (from i : ℕ) (at : Rank) → slice_get ranks i ≡ Some at → (AtOrBelow d at.result s → ⊥) →
      ((j : ℕ) (r : Rank) → from ≤ j → j < i → slice_get ranks j ≡ Some r → AtOrBelow d r.result s → ⊥) →
      (j : ℕ) (r : Rank) → from ≤ j → j < i + 1 → slice_get ranks j ≡ Some r → AtOrBelow d r.result s → ⊥
  none_passed from i at is over before j r later within e low = elim (cases_order j i) [
    | inl q ↦ over (subst (λ (w : Rank). AtOrBelow d w.result s) (sym (same_item ranks i at r is (subst (λ k. slice_get ranks k ≡ Some r) q e))) low)
    | inr (inl l) ↦ before j r later l e low
    | inr (inr l) ↦ absurd (omega (arith, l, within))
  ]

  -- one more rank that is served
  pub served_more : (from i : ℕ) (at : Rank) (args : Row) → slice_get ranks i ≡ Some at → (AtOrBelow d at.result s → IsRowBelow d at.args args) →
      ((j : ℕ) (r : Rank) → from ≤ j → j < i → slice_get ranks j ≡ Some r → AtOrBelow d r.result s → IsRowBelow d r.args args) →
      (j : ℕ) (r : Rank) → from ≤ j → j < i + 1 → slice_get ranks j ≡ Some r → AtOrBelow d r.result s → IsRowBelow d r.args args
  served_more from i at args is serves before j r later within e low = elim (cases_order j i) [
    | inl q ↦
        let same_rank = same_item ranks i at r is (subst (λ k. slice_get ranks k ≡ Some r) q e) in
        subst (λ (w : Rank). IsRowBelow d w.args args) same_rank (serves (subst (λ (w : Rank). AtOrBelow d w.result s) (sym same_rank) low))
    | inr (inl l) ↦ before j r later l e low
    | inr (inr l) ↦ absurd (omega (arith, l, within))
  ]

  -- the first, where those behind it are served by its arguments
  pub top_first : (i : ℕ) → (f : IsFirstLow d s ranks 0 i) → (at : Rank) → slice_get ranks i ≡ Some at → AreServed d s ranks (i + 1) at.args → IsTopLow d s ranks i
  top_first i f at is served = record { at = at; is = is; low = subst (λ (w : Rank). AtOrBelow d w.result s) (same_item ranks i f.at at f.is is) f.low; others = other } where
    other : (j : ℕ) (r : Rank) → slice_get ranks j ≡ Some r → AtOrBelow d r.result s → IsRowBelow d r.args at.args
    other j r e low = elim (cases_order j i) [
      | inl q ↦ subst (λ (w : Rank). IsRowBelow d r.args w.args) (same_item ranks i r at (subst (λ k. slice_get ranks k ≡ Some r) q e) is) (AllBelow-self d r.args)
      | inr (inl l) ↦ absurd (f.before j r (omega arith) l e low)
      | inr (inr l) ↦ served j r (omega (arith, l)) e low
    ]

  -- its arguments are the only list
  pub only_arguments : (i : ℕ) → IsTopLow d s ranks i → (rank : Rank) → slice_get ranks i ≡ Some rank → AreArguments d s ranks (rank.args ∷ [])
  only_arguments i o rank is = record {
    from = λ args c. (rank, ((i, slice_get_within ranks i rank is, get_or_from_slice_get ranks i rank rank is), (subst (λ (w : Rank). AtOrBelow d w.result s) here o.low, only_item rank.args args c)));
    over = λ r c low. (rank.args, (contains_here rank.args [], subst (λ (w : Rank). IsRowBelow d r.args w.args) here (there r c low)));
  } where
    here : o.at ≡ rank
    here = same_item ranks i o.at rank o.is is

    there : (r : Rank) → Contains ranks r → AtOrBelow d r.result s → IsRowBelow d r.args o.at.args
    there r (k, l, e) low = o.others k r (slice_get-get_or ranks k r l ∙ ap Some e) low
