-- Lines in byte order, each once, and lines with their line feeds.
use Rattle.std.proofs.Common.{◌≡◌, ◌≢◌, ℕ, zero, suc, ◌<◌, Bool, true, false, List, [], ◌∷◌, ◌++◌, length, get_or, refl, sym, ap, ◌∙◌, subst, append_assoc, arith, map}
use Rattle.std.specs.Prelude.{Contains, AllPairs, cond, nat_eq}
use Rattle.std.specs.List.{dedup, dedup_from}
use Rattle.std.specs.List.Retain.{IsFiltered, DiffersFromLast}
use Rattle.std.specs.List.Sorted.{IsPermutation, IsSorted}
use Rattle.std.specs.Ordering.{nat_cmp}
use Rattle.std.specs.Cmp.{IsEquivalence}
use Rattle.std.specs.Cmp.Lexicographic.{slice_cmp, pointwise, bytes_decides, on_texts_equal}
use Rattle.std.proofs.lemmas.List.Filters.{dedup_is}
use Rattle.std.proofs.lemmas.List.Kept.{Any-dedup, Contains-from_dedup}
use Rattle.std.proofs.lemmas.List.Sorted.{Contains-permutation, IsPermutation-sym}
use Rattle.fvn_base.specs.Order.{IsBefore}
use Rattle.fvn_base.proofs.Order.{before_trans}
use Rattle.fvn_base.proofs.Membership.{contains_map, map_contains}
use Rattle.fvn_syntax.specs.Pieces.{Text}
use Rattle.fvn_answer.specs.Writing.{is_after}
use Rattle.fvn_answer.specs.Answers.{ended, AreInByteOrder}
use Rattle.fvn_answer.proofs.TextOrder.{InOrder, in_order, not-after-before}

-- Lines with their line feeds.

pub ended-append : (ls ms : List Text) → ended (ls ++ ms) ≡ ended ls ++ ended ms
ended-append [] ms = refl
ended-append (l ∷ ls) ms = ap (λ t. l ++ 10 ∷ t) (ended-append ls ms) ∙ sym (append_assoc l (10 ∷ ended ls) (ended ms))

pub ended-more : (text : Text) (l : Text) (ls : List Text) → text ++ ended (l ∷ ls) ≡ (text ++ ended (l ∷ [])) ++ ended ls
ended-more text l ls =
    ap (λ t. text ++ t) (ended-append (l ∷ []) ls)
    ∙ sym (append_assoc text (ended (l ∷ [])) (ended ls))

-- Each line stands before the next.

abbrev Ascending : List Text → Type 0
Ascending [] = Unit {0}
Ascending (t ∷ []) = Unit {0}
Ascending (t ∷ u ∷ l) = IsBefore t u × Ascending (u ∷ l)

above : (t : Text) (l : List Text) → Ascending (t ∷ l) → (j : ℕ) (d : Text) → j < length l → IsBefore t (get_or l j d)
above t [] h j d m = absurd (omega arith)
above t (u ∷ l) h zero d m = h.0
above t (u ∷ l) h (suc j) d m = before_trans t u (get_or l j d) h.0 (above u l h.1 j d (omega arith))

rest : (t : Text) (l : List Text) → Ascending (t ∷ l) → Ascending l
rest t [] h = tt
rest t (u ∷ l) h = h.1

ascending-pairs : (l : List Text) → Ascending l → AllPairs IsBefore l
ascending-pairs [] h = λ i j d a m. absurd (omega (arith, m))
ascending-pairs (t ∷ l) h = pairs (ascending-pairs l (rest t l h))
  where
    pairs : AllPairs IsBefore l → AllPairs IsBefore (t ∷ l)
    pairs later i zero d a m = absurd (omega (arith, a))
    pairs later zero (suc j) d a m = above t l h j d (omega (arith, m))
    pairs later (suc i) (suc j) d a m = later i j d (omega (arith, a)) (omega (arith, m))

module _ {V : Type 0} (f : V → Text) where
  -- whether two lines are one
  abbrev same : V → V → Bool
  same v w = pointwise nat_eq (f v) (f w)

  -- the first line stays the first
  abbrev behind : V → List V → List V
  behind k [] = []
  behind k (x ∷ xs) = cond (same x k) (behind k xs) (dedup_from same x xs)

  dedup-first : (k : V) (xs : List V) → dedup_from same k xs ≡ k ∷ behind k xs
  dedup-first k [] = refl
  dedup-first k (x ∷ xs) = go (same x k) refl (dedup-first k xs)
    where
      go : (b : Bool) → same x k ≡ b → dedup_from same k xs ≡ k ∷ behind k xs → dedup_from same k (x ∷ xs) ≡ k ∷ behind k (x ∷ xs)
      go true e ih = rw e ih
      go false e ih = rw e refl

  skip : (k x : V) (xs : List V) → f x ≡ f k → InOrder (map f (k ∷ x ∷ xs)) → InOrder (map f (k ∷ xs))
  skip k x [] e h = tt
  skip k x (y ∷ xs) e h = (subst (λ t. is_after t (f y) ≡ false) e h.1.0, h.1.1)

  dedup-ascending : (k : V) (xs : List V) → InOrder (map f (k ∷ xs)) → Ascending (map f (dedup_from same k xs))
  dedup-ascending k [] h = tt
  dedup-ascending k (x ∷ xs) h = go (same x k) refl (λ e. dedup-ascending k xs (skip k x xs e h)) (dedup-ascending x xs h.1)
    where
      go : (b : Bool) → same x k ≡ b → (f x ≡ f k → Ascending (map f (dedup_from same k xs))) → Ascending (map f (dedup_from same x xs)) → Ascending (map f (dedup_from same k (x ∷ xs)))
      go true e one two = rw e (one ((bytes_decides (f x) (f k)).0 e))
      go false e one two =
          let other : f k ≢ f x = λ q. let n = (bytes_decides (f x) (f k)).1 (sym q) in cc in
          let first = dedup-first x xs in
          rw e (subst (λ l. Ascending (f k ∷ map f l)) (sym first) (not-after-before (f k) (f x) h.0 other, subst (λ l. Ascending (map f l)) first two))

  each-ascending : (xs : List V) → InOrder (map f xs) → Ascending (map f (dedup same xs))
  each-ascending [] h = tt
  each-ascending (x ∷ xs) h = dedup-ascending x xs h

  same-equiv : IsEquivalence same
  same-equiv = on_texts_equal f

  -- what a sort and the removal of what repeats leave
  pub in-byte-order : (given sorted kept : List V) → IsPermutation given sorted → IsSorted (λ v w. slice_cmp nat_cmp (f v) (f w)) sorted →
      IsFiltered (DiffersFromLast same) [] sorted kept → AreInByteOrder (map f given) (map f kept)
  in-byte-order given sorted kept p s filtered =
      let is : kept ≡ dedup same sorted = dedup_is same sorted kept filtered in
      subst (λ l. AreInByteOrder (map f given) (map f l)) (sym is) (record {
        ordered = ascending-pairs (map f (dedup same sorted)) (each-ascending sorted (in_order f sorted s));
        exact = λ line. (there line, back line);
      })
    where
      there : (line : Text) → Contains (map f (dedup same sorted)) line → Contains (map f given) line
      there line c =
          let at = map_contains f (dedup same sorted) line c in
          subst (Contains (map f given)) at.1.1
          (contains_map f given at.0 (Contains-permutation sorted given at.0 (IsPermutation-sym given sorted p) (Contains-from_dedup same sorted at.0 at.1.0)))

      back : (line : Text) → Contains (map f given) line → Contains (map f (dedup same sorted)) line
      back line c =
          let at = map_contains f given line c in
          let one = Any-dedup same-equiv sorted at.0 (Contains-permutation given sorted at.0 p at.1.0) in
          let alike : f at.0 ≡ f one.1 = (bytes_decides (f at.0) (f one.1)).0 one.4 in
          subst (Contains (map f (dedup same sorted))) (sym alike ∙ at.1.1)
          (contains_map f (dedup same sorted) one.1 (one.0, one.2, one.3))
