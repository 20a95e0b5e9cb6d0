-- The patterns of a sum in another order.
use Rattle.std.proofs.Common.{◌≡◌, ℕ, ◌+◌, ◌<◌, Bool, true, false, zero, suc, List, [], ◌∷◌, ◌++◌, length, drop, get_or, refl, sym, ap, ◌∙◌, arith}
use Rattle.std.specs.List.{insert as insert_at}
use Rattle.std.specs.Ordering.{is_gt}
use Rattle.std.proofs.lemmas.List.{at_drop_more}
use denote.Ref.{Bor}
use Rattle.fvn_forms.specs.Flat.{FlatTerm}
use Rattle.fvn_forms.specs.Order.{flat_cmp, same_flat}
use Rattle.fvn_forms.specs.InOrder.{insert, sort, one_if, count, SameCounts}
use Rattle.fvn_forms.proofs.InOrder.{count_append, sort_same_counts}
use Rattle.fvn_match.specs.inner.Summands.{references}
use Rattle.fvn_match.proofs.Runs.{references-append}

-- what adds up over a list is the same in another order
module _ (h : List FlatTerm → ℕ) (g : FlatTerm → ℕ) (adds : (t : FlatTerm) (l : List FlatTerm) → h (t ∷ l) ≡ g t + h l) where
  adds_insert : (t : FlatTerm) (l : List FlatTerm) → h (insert t l) ≡ g t + h l
  adds_insert t [] = adds t []
  adds_insert t (u ∷ l) = go (is_gt (flat_cmp t u)) refl (adds_insert t l)
    where
      go : (a : Bool) → is_gt (flat_cmp t u) ≡ a → h (insert t l) ≡ g t + h l → h (insert t (u ∷ l)) ≡ g t + h (u ∷ l)
      go true p ih = rw p (omega (arith, adds u (insert t l), adds u l, ih))
      go false p ih = rw p (adds t (u ∷ l))

  adds_sort : (l : List FlatTerm) → h (sort l) ≡ h l
  adds_sort [] = refl
  adds_sort (t ∷ l) = adds_insert t (sort l) ∙ ap (λ n. g t + n) (adds_sort l) ∙ sym (adds t l)

  pub adds_same : (l m : List FlatTerm) → SameCounts l m → h l ≡ h m
  adds_same l m same = sym (adds_sort l) ∙ ap h (sort_same_counts l m same) ∙ adds_sort m

-- one form more among some
count_inserted : (q : FlatTerm) (k : ℕ) (xs : List (Bor FlatTerm)) (r : Bor FlatTerm) → count q (references (insert_at xs k r)) ≡ one_if (same_flat q r.now) + count q (references xs)
count_inserted q zero xs r = refl
count_inserted q (suc k) [] r = refl
count_inserted q (suc k) (x ∷ xs) r = let a = count_inserted q k xs r in omega arith

pub inserted_same : (ts : List FlatTerm) (i j k : ℕ) (xs : List (Bor FlatTerm)) (r : Bor FlatTerm) → i ≡ j + 1 → j < length ts → r.now ≡ get_or ts j r.now → SameCounts (references xs) (drop i ts) → SameCounts (references (insert_at xs k r)) (drop j ts)
inserted_same ts i j k xs r next within is same q =
    let a = count_inserted q k xs r in
    let b = at_drop_more (count q) ts j r.now within in
    let c = ap (λ u. one_if (same_flat q u) + count q (drop (j + 1) ts)) is in
    let e = ap (λ n. count q (drop n ts)) next in
    let s = same q in
    omega arith

pub pushed_same : (ts : List FlatTerm) (i j : ℕ) (xs : List (Bor FlatTerm)) (r : Bor FlatTerm) → i ≡ j + 1 → j < length ts → r.now ≡ get_or ts j r.now → SameCounts (references xs) (drop i ts) → SameCounts (references (xs ++ r ∷ [])) (drop j ts)
pushed_same ts i j xs r next within is same q =
    let a = ap (count q) (references-append xs (r ∷ [])) in
    let a2 = count_append q (references xs) (r.now ∷ []) in
    let b = at_drop_more (count q) ts j r.now within in
    let c = ap (λ u. one_if (same_flat q u) + count q (drop (j + 1) ts)) is in
    let e = ap (λ n. count q (drop n ts)) next in
    let s = same q in
    omega arith

-- by other names
pub renamed_same : (xs ys : List (Bor FlatTerm)) (ts us : List FlatTerm) → ys ≡ xs → ts ≡ us → SameCounts (references xs) ts → SameCounts (references ys) us
renamed_same xs ys ts us e p same q = ap (λ l. count q (references l)) e ∙ same q ∙ ap (count q) p
