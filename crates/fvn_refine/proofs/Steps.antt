-- Steps of loops: ranks, pairs of a substitution, places of a row.
use Rattle.std.proofs.Common.{◌≡◌, ℕ, zero, suc, ◌+◌, ◌<◌, ◌≤◌, Bool, true, false, List, [], ◌∷◌, ◌++◌, length, take, drop, get_or, set, Some, refl, sym, ap, ◌∙◌, subst, inl, inr, arith}
use Rattle.std.specs.List.{Contains, slice_get, AllZip}
use Rattle.std.specs.Prelude.{if◌then◌else◌}
use Rattle.std.proofs.lemmas.Bool.{true≢false, false_from_ne_true}
use Rattle.std.proofs.lemmas.List.{take_all, take_more}
use Rattle.fvn_base.proofs.Membership.{contains_none}
use Rattle.fvn_terms.specs.declared.plain.Var.{Var}
use Rattle.fvn_terms.specs.declared.plain.SortId.{SortId}
use Rattle.fvn_terms.specs.declared.declarations.Rank.{Rank}
use Rattle.fvn_terms.specs.declared.declarations.Declarations.{Declarations}
use Rattle.fvn_terms.specs.Signature.{AtOrBelow}
use Rattle.fvn_terms.specs.Substitution.{same_var}
use Rattle.fvn_forms.specs.SortOrder.{at_or_below}
use Rattle.fvn_forms.proofs.SortTests.{at_or_below-true, at_or_below-complete}
use Rattle.fvn_flat.proofs.Binding.{same_var_is, same_var_itself}
use Rattle.fvn_refine.specs.inner.Rows.{Row, placed, HasAbove, with_row}
use Rattle.fvn_refine.specs.inner.Found.{AreArguments}
use Rattle.fvn_refine.proofs.RowTests.{with_row-from, with_row-new, with_row-above}
use Rattle.fvn_refine.proofs.Finding.{taken_new, taken_old, taken_cases}

-- an item that a query tells
pub got : {A : Type 0} (l : List A) (i : ℕ) (x : A) → slice_get l i ≡ Some x → (i < length l) × (x ≡ get_or l i x)
got [] i x e = cc
got (y ∷ l) zero x e = let q : y ≡ x = cc in (omega arith, sym q)
got (y ∷ l) (suc i) x e = let r = got l i x e in let n : i < length l = r.0 in (omega arith, r.1)

rest_from : {A : Type 0} (l : List A) (i : ℕ) (x : A) → slice_get l i ≡ Some x → drop i l ≡ x ∷ drop (suc i) l
rest_from [] i x e = cc
rest_from (y ∷ l) zero x e = let q : y ≡ x = cc in ap (λ z. z ∷ l) q
rest_from (y ∷ l) (suc i) x e = rest_from l i x e

pub got_rest : {A : Type 0} (l : List A) (i : ℕ) (x : A) → slice_get l i ≡ Some x → drop i l ≡ x ∷ drop (i + 1) l
got_rest l i x e = let a : suc i ≡ i + 1 = omega arith in rest_from l i x e ∙ ap (λ n. x ∷ drop n l) a

zip_push : {A B : Type 0} (R : A → B → Type 0) (xs : List A) (ys : List B) (x : A) (y : B) → AllZip R xs ys → R x y → AllZip R (xs ++ x ∷ []) (ys ++ y ∷ [])
zip_push R [] [] x y h r = (r, tt)
zip_push R [] (v ∷ ys) x y h r = absurd h
zip_push R (u ∷ xs) [] x y h r = absurd h
zip_push R (u ∷ xs) (v ∷ ys) x y h r = (h.0, zip_push R xs ys x y h.1 r)

-- one more item, and what was made of it
pub zip_more : {A B : Type 0} (R : A → B → Type 0) (xs : List A) (i : ℕ) (x : A) → i < length xs → x ≡ get_or xs i x → (ys all : List B) (y : B) → AllZip R (take i xs) ys → R x y → all ≡ ys ++ y ∷ [] → AllZip R (take (i + 1) xs) all
zip_more R xs i x within is ys all y h r e =
    subst (AllZip R (take (i + 1) xs)) (sym e)
    (subst (λ l. AllZip R l (ys ++ y ∷ [])) (sym (take_more xs i x within ∙ ap (λ z. take i xs ++ z ∷ []) (sym is))) (zip_push R (take i xs) ys x y h r))

module _ (d : Declarations) (s : SortId) where
  pub arguments_none : (ranks : List Rank) → AreArguments d s (take 0 ranks) []
  arguments_none ranks = record { from = λ a c. absurd (contains_none a c); over = λ r c. absurd (contains_none r c) }

  pub arguments_more : (ranks : List Rank) (i : ℕ) (rank : Rank) → slice_get ranks i ≡ Some rank → (rows all : List Row) → AreArguments d s (take i ranks) rows →
      all ≡ (if at_or_below d rank.result s then with_row d rows rank.args else rows) → AreArguments d s (take (i + 1) ranks) all
  arguments_more ranks i rank e rows all h is = subst (AreArguments d s (take (i + 1) ranks)) (sym is) (go (at_or_below d rank.result s) refl)
    where
      g : (i < length ranks) × (rank ≡ get_or ranks i rank)
      g = got ranks i rank e

      old : (a : Row) → Contains rows a → (r : Rank) × (Contains (take (i + 1) ranks) r × (AtOrBelow d r.result s × (r.args ≡ a)))
      old a c = let f = h.from a c in (f.0, (taken_old ranks i rank g.0 g.1 f.0 f.1.0, f.1.1))

      go : (b : Bool) → at_or_below d rank.result s ≡ b → AreArguments d s (take (i + 1) ranks) (if b then with_row d rows rank.args else rows)
      go true p = record {
        from = λ a c. elim (with_row-from d rows rank.args a c) [
          | inl o ↦ old a o
          | inr q ↦ (rank, (taken_new ranks i rank g.0 g.1, (at_or_below-true d rank.result s p, q)))
        ];
        over = λ r c low. elim (taken_cases ranks i rank g.0 g.1 r c) [
          | inl o ↦ with_row-above d rows rank.args r.args (h.over r o low)
          | inr q ↦ subst (λ (z : Rank). HasAbove d (with_row d rows rank.args) z.args) q (with_row-new d rows rank.args)
        ];
      }
      go false p = record {
        from = old;
        over = λ r c low. elim (taken_cases ranks i rank g.0 g.1 r c) [
          | inl o ↦ h.over r o low
          | inr q ↦ absurd (true≢false (sym (at_or_below-complete d (subst (λ (z : Rank). AtOrBelow d z.result s) (sym q) low)) ∙ p))
        ];
      }

  pub arguments_all : (ranks : List Rank) (i : ℕ) (rows : List Row) → length ranks ≤ i → AreArguments d s (take i ranks) rows → AreArguments d s ranks rows
  arguments_all ranks i rows past h = subst (λ l. AreArguments d s l rows) (take_all i ranks past) h

-- a row of two
pub two_items : (row : Row) (e f : SortId) → length row ≡ 2 → row ≡ get_or row 0 e ∷ get_or row 1 f ∷ []
two_items [] e f long = absurd (omega arith)
two_items (a ∷ []) e f long = absurd (omega arith)
two_items (a ∷ b ∷ []) e f long = refl
two_items (a ∷ b ∷ c ∷ row) e f long = absurd (omega arith)

-- one place of a row after another
placed_after : (xs : List Var) (ws : Row) (i : ℕ) (e y : Var) (s : SortId) → length xs ≡ length ws → i < length xs → (get_or xs i e ≡ y → ⊥) →
    take (suc i) ws ++ placed (drop (suc i) xs) (drop (suc i) ws) y s ≡ take i ws ++ placed (drop i xs) (drop i ws) y s
placed_after [] ws i e y s long within n = absurd (omega arith)
placed_after (v ∷ xs) [] i e y s long within n = absurd (omega arith)
placed_after (v ∷ xs) (w ∷ ws) zero e y s long within n = sym (ap (λ b. if b then s ∷ ws else w ∷ placed xs ws y s) (false_from_ne_true (same_var v y) (λ f. n (same_var_is v y f))))
placed_after (v ∷ xs) (w ∷ ws) (suc i) e y s long within n = ap (λ l. w ∷ l) (placed_after xs ws i e y s (omega arith) (omega arith) n)

pub placed_next : (xs : List Var) (ws : Row) (i : ℕ) (e y : Var) (s : SortId) → length xs ≡ length ws → i < length xs → (get_or xs i e ≡ y → ⊥) →
    take (i + 1) ws ++ placed (drop (i + 1) xs) (drop (i + 1) ws) y s ≡ take i ws ++ placed (drop i xs) (drop i ws) y s
placed_next xs ws i e y s long within n =
    let a : i + 1 ≡ suc i = omega arith in
    ap (λ k. take k ws ++ placed (drop k xs) (drop k ws) y s) a ∙ placed_after xs ws i e y s long within n

pub placed_here : (xs : List Var) (ws : Row) (i : ℕ) (e y : Var) (s : SortId) → length xs ≡ length ws → i < length xs → get_or xs i e ≡ y →
    set ws i s ≡ take i ws ++ placed (drop i xs) (drop i ws) y s
placed_here [] ws i e y s long within n = absurd (omega arith)
placed_here (v ∷ xs) [] i e y s long within n = absurd (omega arith)
placed_here (v ∷ xs) (w ∷ ws) zero e y s long within n = sym (ap (λ b. if b then s ∷ ws else w ∷ placed xs ws y s) (ap (same_var v) (sym n) ∙ same_var_itself v))
placed_here (v ∷ xs) (w ∷ ws) (suc i) e y s long within n = ap (λ l. w ∷ l) (placed_here xs ws i e y s (omega arith) (omega arith) n)

pub placed_nowhere : (xs : List Var) (ws : Row) (i : ℕ) (y : Var) (s : SortId) → length xs ≡ length ws → length xs ≤ i → ws ≡ take i ws ++ placed (drop i xs) (drop i ws) y s
placed_nowhere [] [] i y s long past = nothing i
  where
    nothing : (i : ℕ) → [] ≡ take i [] ++ placed (drop i []) (drop i []) y s
    nothing zero = refl
    nothing (suc i) = refl
placed_nowhere [] (w ∷ ws) i y s long past = absurd (omega arith)
placed_nowhere (v ∷ xs) [] i y s long past = absurd (omega arith)
placed_nowhere (v ∷ xs) (w ∷ ws) zero y s long past = absurd (omega arith)
placed_nowhere (v ∷ xs) (w ∷ ws) (suc i) y s long past = ap (λ l. w ∷ l) (placed_nowhere xs ws i y s (omega arith) (omega arith))
