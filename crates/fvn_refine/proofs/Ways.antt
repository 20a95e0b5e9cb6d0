-- Rows as ways: the sorts beside variables, and rows that are placed below others.
use Rattle.std.proofs.Common.{◌≡◌, ◌<◌, ◌≤◌, Bool, true, false, List, [], ◌∷◌, map, length, refl, sym, ap, subst, ◌∙◌, inl, inr, arith}
use Rattle.std.specs.List.{Contains}
use Rattle.std.specs.Prelude.{if◌then◌else◌, ◌||◌, ◌⊎◌}
use Rattle.std.proofs.lemmas.Bool.{false≢true, true≢false, cases_lt}
use Rattle.std.proofs.lemmas.List.{get_or_past}
use Rattle.fvn_terms.specs.declared.plain.Var.{Var}
use Rattle.fvn_terms.specs.declared.plain.SortId.{SortId}
use Rattle.fvn_terms.specs.declared.declarations.Declarations.{Declarations}
use Rattle.fvn_terms.specs.Signature.{kind, IsSort, AtOrBelow, same}
use Rattle.fvn_terms.specs.Substitution.{same_var}
use Rattle.fvn_forms.specs.Good.{IsKinded}
use Rattle.fvn_forms.specs.LeastSort.{KeepsKindsOfVariables}
use Rattle.fvn_forms.proofs.SortOrder.{AtOrBelow-kind, AtOrBelow-antisym, kind_is_greatest}
use Rattle.fvn_forms.proofs.Results.{AllBelow-self}
use Rattle.fvn_signature.specs.Queries.{IsCompleted}
use Rattle.fvn_flat.specs.Variables.{listed}
use Rattle.fvn_flat.proofs.Binding.{same_var_is}
use Rattle.fvn_refine.specs.inner.Rows.{Row, beside, placed, way_of, IsRow, IsRowBelow}

-- a variable without a place
pub beside_else : (xs : List Var) (ws : Row) (y : Var) (s : SortId) → listed xs y ≡ false → beside xs ws y s ≡ s
beside_else [] ws y s e = refl
beside_else (x ∷ xs) [] y s e = refl
beside_else (x ∷ xs) (w ∷ ws) y s e = go (same_var x y) refl (beside_else xs ws y s)
  where
    go : (b : Bool) → same_var x y ≡ b → (listed xs y ≡ false → beside xs ws y s ≡ s) → (if b then w else beside xs ws y s) ≡ s
    go true p rest = absurd (true≢false (ap (λ b. b || listed xs y) (sym p) ∙ e))
    go false p rest = rest (ap (λ b. b || listed xs y) (sym p) ∙ e)

-- the sort that was placed
pub beside_placed : (xs : List Var) (ws : Row) (y : Var) (z s : SortId) → length xs ≡ length ws → listed xs y ≡ true → beside xs (placed xs ws y z) y s ≡ z
beside_placed [] ws y z s long e = absurd (false≢true e)
beside_placed (x ∷ xs) [] y z s long e = absurd (omega arith)
beside_placed (x ∷ xs) (w ∷ ws) y z s long e = go (same_var x y) refl (beside_placed xs ws y z s (omega arith))
  where
    go : (b : Bool) → same_var x y ≡ b → (listed xs y ≡ true → beside xs (placed xs ws y z) y s ≡ z) → beside (x ∷ xs) (if b then z ∷ ws else w ∷ placed xs ws y z) y s ≡ z
    go true p rest = ap (λ b. if b then z else beside xs ws y s) p
    go false p rest = ap (λ b. if b then w else beside xs (placed xs ws y z) y s) p ∙ rest (ap (λ b. b || listed xs y) (sym p) ∙ e)

-- the sorts of a way beside the variables
pub beside_map : (way : Var → SortId) (xs : List Var) (y : Var) (s : SortId) → listed xs y ≡ true → beside xs (map way xs) y s ≡ way y
beside_map way [] y s e = absurd (false≢true e)
beside_map way (x ∷ xs) y s e = go (same_var x y) refl (beside_map way xs y s)
  where
    go : (b : Bool) → same_var x y ≡ b → (listed xs y ≡ true → beside xs (map way xs) y s ≡ way y) → (if b then way x else beside xs (map way xs) y s) ≡ way y
    go true p rest = ap way (same_var_is x y p)
    go false p rest = rest (ap (λ b. b || listed xs y) (sym p) ∙ e)

module _ (d : Declarations) where
  pub row_long : (xs : List Var) (ws : Row) → IsRow d xs ws → length xs ≡ length ws
  row_long [] [] h = refl
  row_long [] (w ∷ ws) h = absurd h
  row_long (x ∷ xs) [] h = absurd h
  row_long (x ∷ xs) (w ∷ ws) h = let e = row_long xs ws h.1 in omega arith

  pub below_antisym : IsKinded d → ((s q : SortId) → Contains d.below (s, q) → AtOrBelow d q s → ⊥) → (r q : Row) → IsRowBelow d r q → IsRowBelow d q r → r ≡ q
  below_antisym kinded acyclic [] [] h k = refl
  below_antisym kinded acyclic [] (w ∷ ws) h k = absurd h
  below_antisym kinded acyclic (v ∷ vs) [] h k = absurd h
  below_antisym kinded acyclic (v ∷ vs) (w ∷ ws) h k =
      ap (λ z. z ∷ vs) (AtOrBelow-antisym d kinded acyclic h.0 k.0) ∙ ap (λ l. w ∷ l) (below_antisym kinded acyclic vs ws h.1 k.1)

  pub beside_below : (xs : List Var) (ms ws : Row) (y : Var) (s : SortId) → IsRowBelow d ms ws → AtOrBelow d (beside xs ms y s) (beside xs ws y s)
  beside_below [] ms ws y s h = same
  beside_below (x ∷ xs) [] [] y s h = same
  beside_below (x ∷ xs) [] (w ∷ ws) y s h = absurd h
  beside_below (x ∷ xs) (m ∷ ms) [] y s h = absurd h
  beside_below (x ∷ xs) (m ∷ ms) (w ∷ ws) y s h = go (same_var x y) (beside_below xs ms ws y s h.1)
    where
      go : (b : Bool) → AtOrBelow d (beside xs ms y s) (beside xs ws y s) → AtOrBelow d (if b then m else beside xs ms y s) (if b then w else beside xs ws y s)
      go true rest = h.0
      go false rest = rest

  pub placed_below : (xs : List Var) (ws : Row) (y : Var) (z s : SortId) → AtOrBelow d z (beside xs ws y s) → IsRowBelow d (placed xs ws y z) ws
  placed_below [] ws y z s h = AllBelow-self d ws
  placed_below (x ∷ xs) [] y z s h = tt
  placed_below (x ∷ xs) (w ∷ ws) y z s h = go (same_var x y) h (placed_below xs ws y z s)
    where
      go : (b : Bool) → AtOrBelow d z (if b then w else beside xs ws y s) → (AtOrBelow d z (beside xs ws y s) → IsRowBelow d (placed xs ws y z) ws) → IsRowBelow d (if b then z ∷ ws else w ∷ placed xs ws y z) (w ∷ ws)
      go true h rest = (h, AllBelow-self d ws)
      go false h rest = (same, rest h)

  pub placed_above : (xs : List Var) (ms ws : Row) (y : Var) (z s : SortId) → IsRowBelow d ms ws → AtOrBelow d (beside xs ms y s) z → IsRowBelow d ms (placed xs ws y z)
  placed_above [] ms ws y z s h k = h
  placed_above (x ∷ xs) [] [] y z s h k = tt
  placed_above (x ∷ xs) [] (w ∷ ws) y z s h k = absurd h
  placed_above (x ∷ xs) (m ∷ ms) [] y z s h k = absurd h
  placed_above (x ∷ xs) (m ∷ ms) (w ∷ ws) y z s h k = go (same_var x y) k (placed_above xs ms ws y z s h.1)
    where
      go : (b : Bool) → AtOrBelow d (if b then m else beside xs ms y s) z → (AtOrBelow d (beside xs ms y s) z → IsRowBelow d ms (placed xs ws y z)) → IsRowBelow d (m ∷ ms) (if b then z ∷ ws else w ∷ placed xs ws y z)
      go true k rest = (k, h.1)
      go false k rest = (h.0, rest k)

  pub placed_row : (xs : List Var) (ws : Row) (y : Var) (z : SortId) → IsRow d xs ws → IsSort d z → kind d z ≡ kind d y.sort → IsRow d xs (placed xs ws y z)
  placed_row [] ws y z h i e = h
  placed_row (x ∷ xs) [] y z h i e = absurd h
  placed_row (x ∷ xs) (w ∷ ws) y z h i e = go (same_var x y) refl (placed_row xs ws y z h.1 i e)
    where
      go : (b : Bool) → same_var x y ≡ b → IsRow d xs (placed xs ws y z) → IsRow d (x ∷ xs) (if b then z ∷ ws else w ∷ placed xs ws y z)
      go true p rest = ((λ _. i, e ∙ ap (λ v. kind d v.sort) (sym (same_var_is x y p))), h.1)
      go false p rest = (h.0, rest)

  module _ (kinded : IsKinded d) where
    beside_kind : (xs : List Var) (ws : Row) (y : Var) (s : SortId) → IsRow d xs ws → kind d s ≡ kind d y.sort → kind d (beside xs ws y s) ≡ kind d y.sort
    beside_kind [] ws y s h e = e
    beside_kind (x ∷ xs) [] y s h e = absurd h
    beside_kind (x ∷ xs) (w ∷ ws) y s h e = go (same_var x y) refl (beside_kind xs ws y s h.1 e)
      where
        go : (b : Bool) → same_var x y ≡ b → kind d (beside xs ws y s) ≡ kind d y.sort → kind d (if b then w else beside xs ws y s) ≡ kind d y.sort
        go true p rest = h.0.1 ∙ ap (λ v. kind d v.sort) (same_var_is x y p)
        go false p rest = rest

    beside_sort : (xs : List Var) (ws : Row) (y : Var) (s : SortId) → IsRow d xs ws → IsSort d y.sort → IsSort d s → IsSort d (beside xs ws y s)
    beside_sort [] ws y s h i j = j
    beside_sort (x ∷ xs) [] y s h i j = absurd h
    beside_sort (x ∷ xs) (w ∷ ws) y s h i j = go (same_var x y) refl (beside_sort xs ws y s h.1 i j)
      where
        go : (b : Bool) → same_var x y ≡ b → IsSort d (beside xs ws y s) → IsSort d (if b then w else beside xs ws y s)
        go true p rest = h.0.0 (subst (λ v. IsSort d v.sort) (sym (same_var_is x y p)) i)
        go false p rest = rest

    -- a row is a way
    pub way_kind : (xs : List Var) (ws : Row) (y : Var) → IsRow d xs ws → kind d (way_of d xs ws y) ≡ kind d y.sort
    way_kind xs ws y h = beside_kind xs ws y (kind d y.sort) h (kinded.own y.sort)

    pub way_sort : (xs : List Var) (ws : Row) (y : Var) → IsRow d xs ws → IsSort d y.sort → IsSort d (way_of d xs ws y)
    way_sort xs ws y h i = beside_sort xs ws y (kind d y.sort) h i (kinded.listed y.sort i)

    pub way_keeps : (xs : List Var) (ws : Row) → IsRow d xs ws → KeepsKindsOfVariables d (way_of d xs ws)
    way_keeps xs ws h y i = way_kind xs ws y h

    -- the row of kinds is the greatest
    pub kinds_row : (xs : List Var) → IsRow d xs (map (λ x. kind d x.sort) xs)
    kinds_row [] = tt
    kinds_row (x ∷ xs) = ((λ i. kinded.listed x.sort i, kinded.own x.sort), kinds_row xs)

    pub kinds_above : (xs : List Var) (ms : Row) → IsRow d xs ms → IsRowBelow d ms (map (λ x. kind d x.sort) xs)
    kinds_above [] [] h = tt
    kinds_above [] (m ∷ ms) h = absurd h
    kinds_above (x ∷ xs) [] h = absurd h
    kinds_above (x ∷ xs) (m ∷ ms) h = (subst (AtOrBelow d m) h.0.1 (AtOrBelow-kind d m), kinds_above xs ms h.1)

    -- a way is a row
    pub map_row : (way : Var → SortId) → ((x : Var) → (IsSort d x.sort → IsSort d (way x)) × (kind d (way x) ≡ kind d x.sort)) → (xs : List Var) → IsRow d xs (map way xs)
    map_row way h [] = tt
    map_row way h (x ∷ xs) = (h x, map_row way h xs)

    module _ (completed : IsCompleted d) where
      own_kind : (z : SortId) → d.sorts ≤ z.0 → kind d z ≡ z
      own_kind z high = go (cases_lt z.0 (length d.kinds))
        where
          go : (z.0 < length d.kinds) ⊎ (length d.kinds ≤ z.0) → kind d z ≡ z
          go (inl l) = let w = completed.sort_of_kind z (record { after_sorts = high; listed = l }) in ap (kind d) (sym w.1.1) ∙ kinded.own w.0 ∙ w.1.1
          go (inr l) = get_or_past d.kinds z.0 z l

      -- a sort that is at or below another is a declared one, or the other
      pub declared_or_same : (z s : SortId) → AtOrBelow d z s → (z.0 < d.sorts) ⊎ (z ≡ s)
      declared_or_same z s h = go (cases_lt z.0 d.sorts)
        where
          go : (z.0 < d.sorts) ⊎ (d.sorts ≤ z.0) → (z.0 < d.sorts) ⊎ (z ≡ s)
          go (inl l) = inl l
          go (inr l) = let e = own_kind z l in inr (sym e ∙ kind_is_greatest d kinded z s (subst (λ q. AtOrBelow d q s) (sym e) h))
