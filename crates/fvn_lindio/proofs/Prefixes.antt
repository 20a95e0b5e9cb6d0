-- Prefixes of the rows: what is known of those done, and which one is refused first.
use Rattle.std.proofs.Common.{◌≡◌, ◌≢◌, ℕ, suc, ◌+◌, ◌<◌, ◌≤◌, ◌⊎◌, ◌↔◌, ℤ, List, [], ◌∷◌, length, get_or, take, sum, refl, sym, ◌∙◌, subst, inl, inr, arith}
use Rattle.std.specs.List.{All, AllPairs, Any, Contains}
use Rattle.std.proofs.lemmas.List.{get_or-take, length-take-le}
use Rattle.std.proofs.lemmas.List.Elements.{All-contains, Contains-get_or}
use Rattle.std.proofs.lemmas.Bool.{cases_lt, cases_order}
use Rattle.fvn_base.specs.Order.{IsBefore}
use Rattle.fvn_lindio.specs.Systems.{IsMinimal}
use Rattle.fvn_lindio.specs.Refusals.{HasTooMany, HasTooWide, NoneShorter, IsTooMany, IsTooWide}
use Rattle.fvn_lindio.proofs.VectorLemmas.{sum-cons}
use Rattle.fvn_base.proofs.Pigeonhole.{length-le_within}
use Rattle.fvn_base.proofs.Order.{before_irrefl}

-- a property has one first place
one_first : (P : ℕ → Type 0) (j k : ℕ) → P j → P k → ((i : ℕ) → i < j → P i → ⊥) → ((i : ℕ) → i < k → P i → ⊥) → j ≡ k
one_first P j k p q before_j before_k = go (cases_order j k)
  where
    go : (j ≡ k) ⊎ ((j < k) ⊎ (k < j)) → j ≡ k
    go (inl e) = e
    go (inr (inl l)) = absurd (before_k j l p)
    go (inr (inr l)) = absurd (before_j k l q)

module _ (columns : ℕ) (rows : List (List ℤ)) (most : ℕ) where
  -- the list is that of the minimal solutions of the first k rows
  pub record IsBasis (k : ℕ) (list : List (List ℕ)) : Type 0 where
    pub exact : (v : List ℕ) → Contains list v ↔ IsMinimal columns (take k rows) v
    pub ordered : AllPairs IsBefore list

  pub record IsDone (k : ℕ) (list : List (List ℕ)) : Type 0 where
    pub basis : IsBasis k list
    pub few : length list ≤ most
    pub narrow : All (All (λ a. a ≤ 65535)) list
    pub first : NoneShorter columns rows most (k + 1)

  -- the list is that of the rows with row k, and none of the prefixes before is refused
  pub record IsReached (k : ℕ) (list : List (List ℕ)) : Type 0 where
    pub within : k < length rows
    pub basis : IsBasis (k + 1) list
    pub first : NoneShorter columns rows most (k + 1)

  apart : (list : List (List ℕ)) → AllPairs IsBefore list → AllPairs ◌≢◌ list
  apart list h i j d l m e = before_irrefl (get_or list j d) (subst (λ v. IsBefore v (get_or list j d)) e (h i j d l m))

  -- ---- too many

  pub has_too_many : (k : ℕ) (list : List (List ℕ)) → IsBasis k list → most < length list → HasTooMany columns rows most k
  has_too_many k list h l =
      record {
        list = take (most + 1) list;
        one_more = count;
        apart = λ i j d p q. let b : j < most + 1 = omega (arith, q, count) in let a : i < most + 1 = omega (arith, b, p) in λ e. apart list h.ordered i j d p (omega arith) (sym (get_or-take (most + 1) list i d a) ∙ (e ∙ get_or-take (most + 1) list j d b));
        minimal = λ i d p. let b : i < most + 1 = omega (arith, p, count) in subst (IsMinimal columns (take k rows)) (sym (get_or-take (most + 1) list i d b)) ((h.exact (get_or list i d)).0 (Contains-get_or list i d (omega arith)));
      }
    where
      count : length (take (most + 1) list) ≡ most + 1
      count = length-take-le (most + 1) list (omega arith)

  pub not_too_many : (k : ℕ) (list : List (List ℕ)) → IsBasis k list → length list ≤ most → HasTooMany columns rows most k → ⊥
  not_too_many k list h l many = omega (arith, many.one_more, length-le_within many.list list many.apart (λ x m. (h.exact x).1 (All-contains (IsMinimal columns (take k rows)) many.list x many.minimal m)))

  -- ---- too wide

  pub has_too_wide : (k : ℕ) (list : List (List ℕ)) → IsBasis k list → ((v : List ℕ) × Contains list v × Any (λ a. 65535 < a) v) → HasTooWide columns rows k
  has_too_wide k list h w = record { solution = w.0; minimal = (h.exact w.0).0 w.1; wide = w.2 }

  pub not_too_wide : (k : ℕ) (list : List (List ℕ)) → IsBasis k list → All (All (λ a. a ≤ 65535)) list → HasTooWide columns rows k → ⊥
  not_too_wide k list h narrow w =
      let a = w.wide in
      let at : get_or w.solution a.0 a.1 ≡ a.1 = a.3 in
      let b : get_or w.solution a.0 a.1 ≤ 65535 = All-contains (All (λ a. a ≤ 65535)) list w.solution narrow ((h.exact w.solution).1 w.minimal) a.0 a.1 a.2 in
      omega (arith, at, b, a.4)

  -- ---- the first refused

  pub none_more : (k : ℕ) → NoneShorter columns rows most k → (HasTooMany columns rows most k → ⊥) → (HasTooWide columns rows k → ⊥) → NoneShorter columns rows most (k + 1)
  none_more k h m w j l = go (cases_lt j k)
    where
      go : (j < k) ⊎ (k ≤ j) → (HasTooMany columns rows most j → ⊥) × (HasTooWide columns rows j → ⊥)
      go (inl a) = h j a
      go (inr a) =
          let e : k ≡ j = omega arith in
          subst (λ n. (HasTooMany columns rows most n → ⊥) × (HasTooWide columns rows n → ⊥)) e (m, w)

  pub same_many : (j k : ℕ) → IsTooMany columns rows most j → IsTooMany columns rows most k → j ≡ k
  same_many j k h g = one_first (HasTooMany columns rows most) j k h.many g.many (λ i l. (h.first i l).0) (λ i l. (g.first i l).0)

  pub same_wide : (j k : ℕ) → IsTooWide columns rows most j → IsTooWide columns rows most k → j ≡ k
  same_wide j k h g = one_first (HasTooWide columns rows) j k h.wide g.wide (λ i l. (h.first i l).1) (λ i l. (g.first i l).1)

  pub not_both : (j k : ℕ) → IsTooMany columns rows most j → IsTooWide columns rows most k → ⊥
  not_both j k h g = go (cases_order j k)
    where
      go : (j ≡ k) ⊎ ((j < k) ⊎ (k < j)) → ⊥
      go (inl e) = g.few (subst (HasTooMany columns rows most) e h.many)
      go (inr (inl l)) = (g.first j l).0 h.many
      go (inr (inr l)) = (h.first k l).1 g.wide

  pub none_many : (k j : ℕ) → length rows ≤ k → NoneShorter columns rows most (k + 1) → IsTooMany columns rows most j → ⊥
  none_many k j l h g = (h j (omega (arith, g.within, l))).0 g.many

  pub none_wide : (k j : ℕ) → length rows ≤ k → NoneShorter columns rows most (k + 1) → IsTooWide columns rows most j → ⊥
  none_wide k j l h g = (h j (omega (arith, g.within, l))).1 g.wide

  -- ---- no row

  no_solution : (v : List ℕ) → IsMinimal columns [] v → ⊥
  no_solution v m = omega (arith, m.nonzero, zero_sum v (λ j. m.solves.unused j (λ i d l. absurd (omega (arith, l)))))
    where
      zero_sum : (v : List ℕ) → ((j : ℕ) → get_or v j 0 ≡ 0) → sum v ≡ 0
      zero_sum [] h = refl
      zero_sum (a ∷ v) h = omega (arith, sum-cons a v, h 0, zero_sum v (λ j. h (suc j)))

  pub done_none : IsDone 0 []
  done_none =
      record {
        basis = none;
        few = omega arith;
        narrow = λ i d l. absurd (omega (arith, l));
        first = none_more 0 (λ j l. absurd (omega (arith, l))) (not_too_many 0 [] none (omega arith)) (not_too_wide 0 [] none (λ i d l. absurd (omega (arith, l))));
      }
    where
      none : IsBasis 0 []
      none = record { exact = λ v. (λ m. absurd (omega (arith, m.1)), λ m. absurd (no_solution v m)); ordered = λ i j d l m. absurd (omega (arith, m)) }

-- one row more
module _ {columns : ℕ} {rows : List (List ℤ)} {most k : ℕ} {list : List (List ℕ)} (reached : IsReached columns rows most k list) where
  pub refused_many : most < length list → IsTooMany columns rows most (k + 1)
  refused_many l = record { within = omega (arith, reached.within); many = has_too_many columns rows most (k + 1) list reached.basis l; first = reached.first }

  pub refused_wide : length list ≤ most → ((v : List ℕ) × Contains list v × Any (λ a. 65535 < a) v) → IsTooWide columns rows most (k + 1)
  refused_wide l w =
      record {
        within = omega (arith, reached.within);
        few = not_too_many columns rows most (k + 1) list reached.basis l;
        wide = has_too_wide columns rows most (k + 1) list reached.basis w;
        first = reached.first;
      }

  pub done_more : length list ≤ most → All (All (λ a. a ≤ 65535)) list → IsDone columns rows most (k + 1) list
  done_more l narrow =
      record {
        basis = reached.basis;
        few = l;
        narrow = narrow;
        first = none_more columns rows most (k + 1) reached.first (not_too_many columns rows most (k + 1) list reached.basis l) (not_too_wide columns rows most (k + 1) list reached.basis narrow);
      }
