-- Sums of an operator none of whose ranks gives a sort or one below it.
use Rattle.std.proofs.Common.{◌≡◌, ◌<◌, ◌≤◌, ◌+◌, ℕ, true, false, List, [], ◌∷◌, map, length, Some, refl, sym, ap, ◌∙◌, subst, inl, inr, arith}
use Rattle.std.specs.Prelude.{◌⊎◌, Bool, Contains, nat_lt, slice_get}
use Rattle.std.specs.List.{AllByRecursion, fold}
use Rattle.std.proofs.lemmas.Bool.{ltb-true, ltb-false}
use Rattle.std.proofs.lemmas.Option.{slice_get_read}
use Rattle.fvn_terms.specs.declared.plain.Var.{Var}
use Rattle.fvn_terms.specs.declared.plain.OpId.{OpId}
use Rattle.fvn_terms.specs.declared.plain.SortId.{SortId}
use Rattle.fvn_terms.specs.declared.declarations.Rank.{Rank}
use Rattle.fvn_terms.specs.declared.declarations.Declarations.{Declarations}
use Rattle.fvn_terms.specs.Signature.{kind, declared, axioms, AtOrBelow, HasKind}
use Rattle.fvn_terms.specs.Equality.{IsAssociative, identity}
use Rattle.fvn_forms.specs.Flat.{FlatTerm, FlatTerms, fvar, fapp, fnone, fmore, funpack, fconstant, plain}
use Rattle.fvn_forms.specs.Canon.{same_op, is_identity, parts}
use Rattle.fvn_forms.specs.Settled.{Settled}
use Rattle.fvn_forms.specs.Good.{IsOfKind, IsGood}
use Rattle.fvn_forms.specs.Ranks.{ranks_of}
use Rattle.fvn_forms.specs.LeastSort.{result_of_two, sum_sort, sorts_in, least_sort}
use Rattle.fvn_forms.proofs.Results.{result-is, result-pair, TakesKinds-pair}
use Rattle.fvn_forms.proofs.Sums.{same_op_is, parts_are_settled}
use Rattle.fvn_forms.proofs.KindsOfSums.{parts_of_kind}
use Rattle.fvn_forms.proofs.LeastSort.{sort_in-kind}
use Rattle.fvn_match.specs.inner.Refusing.{GivesNone, IsSummand}
use Rattle.fvn_match.specs.inner.Searching.{IsOnePiece}

-- what holds of the first ranks of the operator
abbrev pub FirstRanks : Declarations → OpId → (Rank → Type 0) → ℕ → Type 0
FirstRanks d f P n = (k : ℕ) (r : Rank) → k < n → slice_get (ranks_of d f) k ≡ Some r → P r

one_rank : (a b : Rank) → Some a ≡ Some b → a ≡ b
one_rank a b e = cc

less_or_last : (k i : ℕ) → k < i + 1 → (k < i) ⊎ (k ≡ i)
less_or_last k i h = go (nat_lt k i) refl
  where
    go : (b : Bool) → nat_lt k i ≡ b → (k < i) ⊎ (k ≡ i)
    go true e = inl (ltb-true k i e)
    go false e = let low : i ≤ k = ltb-false k i e in inr (omega arith)

pub none_first : (d : Declarations) (f : OpId) (P : Rank → Type 0) → FirstRanks d f P 0
none_first d f P k r low e = absurd (omega (arith, low))

pub one_more : (d : Declarations) (f : OpId) (P : Rank → Type 0) (i : ℕ) → FirstRanks d f P i → (t : Rank) → slice_get (ranks_of d f) i ≡ Some t → P t → FirstRanks d f P (i + 1)
one_more d f P i before t at holds k r low e = elim (less_or_last k i low) [
  | inl l ↦ before k r l e
  | inr q ↦ subst P (one_rank t r (sym at ∙ subst (λ n. slice_get (ranks_of d f) n ≡ Some r) q e)) holds
]

pub all_ranks : (d : Declarations) (f : OpId) (P : Rank → Type 0) (n : ℕ) → length (ranks_of d f) ≤ n → FirstRanks d f P n → (r : Rank) → Contains (ranks_of d f) r → P r
all_ranks d f P n enough holds r at =
    let read = slice_get_read (ranks_of d f) (length (ranks_of d f)) at.0 r refl at.1 (sym at.2) in
    holds at.0 r (let within = at.1 in omega (arith, within, enough)) read

pub each_map : {A B : Type 0} (P : B → Type 0) (g : A → B) (l : List A) → AllByRecursion (λ x. P (g x)) l → AllByRecursion P (map g l)
each_map P g [] h = tt
each_map P g (x ∷ l) h = (h.0, each_map P g l h.1)

sorts_in-funpack : (d : Declarations) (ts : FlatTerms) → sorts_in d (λ x. x.sort) ts ≡ map (least_sort d) (funpack ts)
sorts_in-funpack d fnone = refl
sorts_in-funpack d (fmore t ts) = ap (λ ss. least_sort d t ∷ ss) (sorts_in-funpack d ts)

-- the sort of a form from its summands
pub sort_of_parts : (d : Declarations) (f : OpId) (t x : FlatTerm) (xs : List FlatTerm) → parts d f t ≡ x ∷ xs → least_sort d t ≡ sum_sort d f (map (least_sort d) (x ∷ xs))
sort_of_parts d f (fvar y) x xs e = ap (λ l. sum_sort d f (map (least_sort d) l)) e
sort_of_parts d f (fapp g true ts) x xs e = go (same_op f g) refl
  where
    go : (b : Bool) → same_op f g ≡ b → least_sort d (fapp g true ts) ≡ sum_sort d f (map (least_sort d) (x ∷ xs))
    go true p =
        let q : funpack ts ≡ x ∷ xs = rw p at e in
        (λ i. sum_sort d (sym (same_op_is f g p) i) (sorts_in-funpack d ts i)) ∙ ap (λ l. sum_sort d f (map (least_sort d) l)) q
    go false p = let q : fapp g true ts ∷ [] ≡ x ∷ xs = rw p at e in ap (λ l. sum_sort d f (map (least_sort d) l)) q
sort_of_parts d f (fapp g false fnone) x xs e = go (is_identity (identity (axioms d f)) g) refl
  where
    go : (b : Bool) → is_identity (identity (axioms d f)) g ≡ b → least_sort d (fconstant g) ≡ sum_sort d f (map (least_sort d) (x ∷ xs))
    go true p = let q : [] ≡ x ∷ xs = rw p at e in cc
    go false p = let q : fconstant g ∷ [] ≡ x ∷ xs = rw p at e in ap (λ l. sum_sort d f (map (least_sort d) l)) q
sort_of_parts d f (fapp g false (fmore t ts)) x xs e = ap (λ l. sum_sort d f (map (least_sort d) l)) e

module _ (d : Declarations) (good : IsGood d) (f : OpId) (assoc : IsAssociative (axioms d f)) where
  -- some rank gives the sort
  record IsGiven (s : SortId) : Type 0 where
    rank : Rank
    listed : Contains (ranks_of d f) rank
    gives : rank.result ≡ s

  given : (a b : SortId) (l : List SortId) → IsOfKind d f a → IsOfKind d f b → AllByRecursion (IsOfKind d f) l → IsGiven (fold (result_of_two d f) a (b ∷ l))
  given a b [] p q ps = let w = (result-is d good f (a ∷ b ∷ []) (TakesKinds-pair d good f a b assoc p q)).serves in record { rank = w.rank; listed = w.listed; gives = w.gives }
  given a b (c ∷ l) p q ps = given (result_of_two d f a b) c l (result-pair d good f a b assoc p q) ps.0 ps.1

  module _ (r : Rank) (listed : Contains (declared d f).ranks r) where
    pub sorts_fit : (l : List FlatTerm) → AllByRecursion (Settled d) l → AllByRecursion (λ p. HasKind d (plain p) (kind d r.result)) l → AllByRecursion (λ t. IsOfKind d f (least_sort d t)) l
    sorts_fit [] s h = tt
    sorts_fit (t ∷ l) s h = (record { rank = r; listed = listed; kind_is = sort_in-kind d good (λ x. x.sort) (λ x i. refl) t s.0 (kind d r.result) h.0 }, sorts_fit l s.1 h.1)

    -- a form of a sort that no rank gives has one summand at most
    module _ (s : SortId) (none : GivesNone d f s) where
      pub low_is_one : (t : FlatTerm) → Settled d t → HasKind d (plain t) (kind d r.result) → AtOrBelow d (least_sort d t) s → length (parts d f t) ≤ 1
      low_is_one t settled h low = go (parts d f t) refl (sorts_fit (parts d f t) (parts_are_settled d f t settled) (parts_of_kind d good.fits f assoc (kind d r.result) t h))
        where
          go : (l : List FlatTerm) → parts d f t ≡ l → AllByRecursion (λ u. IsOfKind d f (least_sort d u)) l → length l ≤ 1
          go [] e k = omega arith
          go (x ∷ []) e k = omega arith
          go (x ∷ y ∷ l) e k =
              let is = sort_of_parts d f t x (y ∷ l) e in
              let g = given (least_sort d x) (least_sort d y) (map (least_sort d) l) k.0 k.1.0 (each_map (IsOfKind d f) (least_sort d) l k.1.1) in
              absurd (none g.rank g.listed (subst (λ q. AtOrBelow d q s) (is ∙ sym g.gives) low))

-- a variable of such a sort takes one summand at most
pub single_variable : (d : Declarations) → IsGood d → (f : OpId) (x : Var) → IsSummand d f (fvar x) → GivesNone d f x.sort → IsOnePiece d f (fvar x)
single_variable d good f x p none c k =
    let h = p.flat.has_kind in
    low_is_one d good f p.associative p.rank p.listed x.sort none (c x) (k.flat.settled x) (subst (HasKind d (plain (c x))) h.1 (k.flat.keeps_kinds x h.0)) (k.sorts x h.0)
