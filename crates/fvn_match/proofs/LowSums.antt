-- Sums of a sort that has an argument of each rank that gives it.
use Rattle.std.proofs.Common.{◌≡◌, ◌<◌, ◌≤◌, ℕ, zero, suc, true, List, [], ◌∷◌, map, length, get_or, refl, sym, ap, ◌∙◌, subst, inl, inr, arith}
use Rattle.std.specs.Prelude.{◌⊎◌, Contains}
use Rattle.std.specs.List.{AllByRecursion, AllZip, fold}
use Rattle.fvn_terms.specs.declared.plain.OpId.{OpId}
use Rattle.fvn_terms.specs.declared.plain.SortId.{SortId}
use Rattle.fvn_terms.specs.declared.declarations.Rank.{Rank}
use Rattle.fvn_terms.specs.declared.declarations.Declarations.{Declarations}
use Rattle.fvn_terms.specs.Signature.{kind, declared, axioms, AtOrBelow, HasKind}
use Rattle.fvn_terms.specs.Equality.{IsAssociative}
use Rattle.fvn_forms.specs.Flat.{FlatTerm, plain}
use Rattle.fvn_forms.specs.Canon.{parts, sum}
use Rattle.fvn_forms.specs.Settled.{Settled}
use Rattle.fvn_forms.specs.Good.{IsOfKind, IsGood}
use Rattle.fvn_forms.specs.LeastSort.{result_of_two, least_sort}
use Rattle.fvn_forms.proofs.SortOrder.{AtOrBelow-trans}
use Rattle.fvn_forms.proofs.SortTests.{at_or_below-complete}
use Rattle.fvn_forms.proofs.Results.{result-is, result-pair, TakesKinds-pair}
use Rattle.fvn_forms.proofs.Sums.{sum_parts, parts_are_settled}
use Rattle.fvn_forms.proofs.KindsOfSums.{parts_of_kind}
use Rattle.fvn_match.specs.inner.Refusing.{TakesLow, KeepsLow, is_low, low_in}
use Rattle.fvn_match.proofs.HighSums.{each_map, sort_of_parts, sorts_fit}

one_at : (xs : List SortId) (i : ℕ) (e g : SortId) → i < length xs → get_or xs i g ≡ get_or xs i e
one_at [] i e g h = absurd (omega arith)
one_at (x ∷ xs) zero e g h = refl
one_at (x ∷ xs) (suc i) e g h = one_at xs i e g (omega arith)

contains_at : (xs : List SortId) (i : ℕ) (e : SortId) → i < length xs → Contains xs (get_or xs i e)
contains_at xs i e h = (i, h, one_at xs i e (get_or xs i e) h)

pub takes_at : (d : Declarations) (s : SortId) (r : Rank) (l : List SortId) (i : ℕ) (e : SortId) → l ≡ r.args → i < length l → AtOrBelow d (get_or l i e) s → TakesLow d s r
takes_at d s r l i e is h low = (get_or l i e, (subst (λ (m : List SortId). Contains m (get_or l i e)) is (contains_at l i e h), low))

module _ (d : Declarations) (s : SortId) where
  -- one of the sorts is at or below s
  abbrev HasLow : List SortId → Type 0
  HasLow [] = ⊥
  HasLow (q ∷ qs) = AtOrBelow d q s ⊎ HasLow qs

  widened : (a b : SortId) (l : List SortId) → HasLow (a ∷ b ∷ []) → HasLow (a ∷ b ∷ l)
  widened a b l (inl h) = inl h
  widened a b l (inr (inl h)) = inr (inl h)
  widened a b l (inr (inr h)) = absurd h

  of_two : (a b : SortId) (args : List SortId) → AllZip (AtOrBelow d) (a ∷ b ∷ []) args → (q : SortId) (i : ℕ) → i < length args → get_or args i q ≡ q → AtOrBelow d q s → HasLow (a ∷ b ∷ [])
  of_two a b [] h q i within at low = absurd h
  of_two a b (x ∷ []) h q i within at low = absurd h.1
  of_two a b (x ∷ y ∷ []) h q zero within at low = inl (AtOrBelow-trans d h.0 (subst (λ z. AtOrBelow d z s) (sym at) low))
  of_two a b (x ∷ y ∷ []) h q (suc zero) within at low = inr (inl (AtOrBelow-trans d h.1.0 (subst (λ z. AtOrBelow d z s) (sym at) low)))
  of_two a b (x ∷ y ∷ []) h q (suc (suc i)) within at low = absurd (omega arith)
  of_two a b (x ∷ y ∷ z ∷ zs) h q i within at low = absurd h.1.1

  counted : (l : List FlatTerm) → HasLow (map (least_sort d) l) → 1 ≤ low_in d s l
  counted [] h = absurd h
  counted (t ∷ l) (inl h) = let e : is_low d s t ≡ true = at_or_below-complete d h in rw e (omega arith)
  counted (t ∷ l) (inr h) = let a = counted l h in omega arith

  module _ (good : IsGood d) (f : OpId) (assoc : IsAssociative (axioms d f)) (keeps : KeepsLow d f s) where
    of_pair : (a b : SortId) → IsOfKind d f a → IsOfKind d f b → AtOrBelow d (result_of_two d f a b) s → HasLow (a ∷ b ∷ [])
    of_pair a b p q low =
        let w = (result-is d good f (a ∷ b ∷ []) (TakesKinds-pair d good f a b assoc p q)).serves in
        let k = keeps w.rank w.listed (subst (λ z. AtOrBelow d z s) (sym w.gives) low) in
        of_two a b w.rank.args w.fits k.0 k.1.0.0 k.1.0.1 k.1.0.2 k.1.1

    among : (a b : SortId) (l : List SortId) → IsOfKind d f a → IsOfKind d f b → AllByRecursion (IsOfKind d f) l → AtOrBelow d (fold (result_of_two d f) a (b ∷ l)) s → HasLow (a ∷ b ∷ l)
    among a b [] p q ps low = of_pair a b p q low
    among a b (c ∷ l) p q ps low = go (among (result_of_two d f a b) c l (result-pair d good f a b assoc p q) ps.0 ps.1 low) (of_pair a b p q)
      where
        go : HasLow (result_of_two d f a b ∷ c ∷ l) → (AtOrBelow d (result_of_two d f a b) s → HasLow (a ∷ b ∷ [])) → HasLow (a ∷ b ∷ c ∷ l)
        go (inl h) two = widened a b (c ∷ l) (two h)
        go (inr h) two = inr (inr h)

    -- a form of the sort has a summand of the sort
    pub low_summand : (r : Rank) → Contains (declared d f).ranks r → (t : FlatTerm) → Settled d t → HasKind d (plain t) (kind d r.result) → AtOrBelow d (least_sort d t) s → 1 ≤ length (parts d f t) → 1 ≤ low_in d s (parts d f t)
    low_summand r listed t settled h low some = go (parts d f t) refl (sorts_fit d good f assoc r listed (parts d f t) (parts_are_settled d f t settled) (parts_of_kind d good.fits f assoc (kind d r.result) t h)) some
      where
        go : (l : List FlatTerm) → parts d f t ≡ l → AllByRecursion (λ u. IsOfKind d f (least_sort d u)) l → 1 ≤ length l → 1 ≤ low_in d s l
        go [] e k some = absurd (omega arith)
        go (x ∷ []) e k some =
            let is : x ≡ t = ap (sum d f) (sym e) ∙ sum_parts d f t settled in
            let high : is_low d s x ≡ true = ap (is_low d s) is ∙ at_or_below-complete d low in
            rw high (omega arith)
        go (x ∷ y ∷ l) e k some =
            let is = sort_of_parts d f t x (y ∷ l) e in
            counted (x ∷ y ∷ l) (among (least_sort d x) (least_sort d y) (map (least_sort d) l) k.0 k.1.0 (each_map (IsOfKind d f) (least_sort d) l k.1.1) (subst (λ q. AtOrBelow d q s) is low))
