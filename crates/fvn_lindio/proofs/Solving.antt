-- Solutions add up and subtract, and below each of them stands a minimal one.
use Rattle.std.proofs.Common.{◌≡◌, ℕ, zero, suc, ◌<◌, ◌≤◌, ◌⊎◌, ℤ, List, [], ◌∷◌, length, get_or, sum, sym, ◌∙◌, subst, inl, inr, arith}
use Rattle.std.specs.List.{All}
use Rattle.std.proofs.lemmas.List.Elements.{All-nil, All-cons, All-head, All-tail}
use Rattle.std.proofs.lemmas.Bool.{cases_lt, cases_order}
use Rattle.fvn_base.specs.Decided.{Decided}
use Rattle.fvn_lindio.specs.Vectors.{IsAtOrBelow, IsNonZero, add}
use Rattle.fvn_lindio.specs.Systems.{up, down, IsZeroAt, Solves, IsMinimal}
use Rattle.fvn_lindio.specs.Laws.{MinimalBelow}
use Rattle.fvn_lindio.specs.inner.Search.{Lies}
use Rattle.fvn_lindio.proofs.VectorLemmas.{length-add, sides-add, get_or-add, below_refl, below_trans, below_length, below_same, below_get_or}

pub Lies-from_solves : {columns : ℕ} {rows : List (List ℤ)} {x : List ℕ} → Solves columns rows x → Lies columns rows rows x
Lies-from_solves h = record { sized = h.sized; zero_rows = h.zero_rows; unused = h.unused }

pub Solves-from_lies : {columns : ℕ} {rows : List (List ℤ)} {x : List ℕ} → Lies columns rows rows x → Solves columns rows x
Solves-from_lies h = record { sized = h.sized; zero_rows = h.zero_rows; unused = h.unused }

-- two vectors lie in a space with their sum
pub Lies-add : {columns : ℕ} {rows used : List (List ℤ)} (x y : List ℕ) → Lies columns rows used x → Lies columns rows used y → Lies columns rows used (add x y)
Lies-add {columns} {rows} {used} x y h k =
    let e : length x ≡ length y = h.sized ∙ sym k.sized in
    record {
      sized = length-add x y e ∙ h.sized;
      zero_rows = λ i d l. let r = sides-add (get_or rows i d) x y e in omega (arith, r.0, r.1, h.zero_rows i d l, k.zero_rows i d l);
      unused = λ j u. omega (arith, get_or-add x y j e, h.unused j u, k.unused j u);
    }

-- a vector lies in a space with its sum with one that lies there
pub Lies-rest : {columns : ℕ} {rows used : List (List ℤ)} (x d : List ℕ) → length x ≡ length d → Lies columns rows used x → Lies columns rows used (add x d) → Lies columns rows used d
Lies-rest {columns} {rows} {used} x y e h k =
    record {
      sized = sym e ∙ h.sized;
      zero_rows = λ i d l. let r = sides-add (get_or rows i d) x y e in omega (arith, r.0, r.1, h.zero_rows i d l, k.zero_rows i d l);
      unused = λ j u. omega (arith, get_or-add x y j e, h.unused j u, k.unused j u);
    }

-- ---- whether some vector of the box below x has a property that can be told of each vector

abbrev Below : List ℕ → (List ℕ → Type 0) → Type 0
Below x P = (y : List ℕ) × IsAtOrBelow y x × P y

shorter : (n : ℕ) (x : List ℕ) (P : List ℕ → Type 0) → Decided (Below (n ∷ x) P) → Decided (Below x (λ y. P (suc n ∷ y))) → Decided (Below (suc n ∷ x) P)
shorter n x P (inl (a ∷ y, h, p)) q = inl (a ∷ y, (omega (arith, h.0), h.1), p)
shorter n x P (inl ([], h, p)) q = absurd h
shorter n x P (inr never) (inl (y, h, p)) = inl (suc n ∷ y, (omega arith, h), p)
shorter n x P (inr never) (inr none) = inr refuse
  where
    refuse : Below (suc n ∷ x) P → ⊥
    refuse ([], h, p) = h
    refuse (a ∷ y, h, p) = split (cases_lt a (suc n)) h p
      where
        split : (a < suc n) ⊎ (suc n ≤ a) → IsAtOrBelow (a ∷ y) (suc n ∷ x) → P (a ∷ y) → ⊥
        split (inl l) k q = never (a ∷ y, (omega arith, k.1), q)
        split (inr l) k q =
            let e : a ≡ suc n = omega (arith, l, k.0) in
            none (y, k.1, subst (λ b. P (b ∷ y)) e q)

heads : (x : List ℕ) → ((Q : List ℕ → Type 0) → ((y : List ℕ) → Decided (Q y)) → Decided (Below x Q)) → (n : ℕ) (P : List ℕ → Type 0) → ((y : List ℕ) → Decided (P y)) → Decided (Below (n ∷ x) P)
heads x each zero P told = first (each (λ y. P (0 ∷ y)) (λ y. told (0 ∷ y)))
  where
    first : Decided (Below x (λ y. P (0 ∷ y))) → Decided (Below (0 ∷ x) P)
    first (inl (y, h, p)) = inl (0 ∷ y, (omega arith, h), p)
    first (inr never) = inr refuse
      where
        refuse : Below (0 ∷ x) P → ⊥
        refuse ([], h, p) = h
        refuse (a ∷ y, h, p) =
            let e : a ≡ 0 = omega (arith, h.0) in
            never (y, h.1, subst (λ b. P (b ∷ y)) e p)
heads x each (suc n) P told = shorter n x P (heads x each n P told) (each (λ y. P (suc n ∷ y)) (λ y. told (suc n ∷ y)))

pub below_told : (x : List ℕ) (P : List ℕ → Type 0) → ((y : List ℕ) → Decided (P y)) → Decided (Below x P)
below_told [] P told = at_nil (told [])
  where
    at_nil : Decided (P []) → Decided (Below [] P)
    at_nil (inl p) = inl ([], tt, p)
    at_nil (inr never) = inr refuse
      where
        refuse : Below [] P → ⊥
        refuse ([], h, p) = never p
        refuse (a ∷ y, h, p) = h
below_told (a ∷ x) P told = heads x (below_told x) a P told

-- ---- each solution other than zero has a minimal one at or below it

zero_rows_told : (x : List ℕ) (rows : List (List ℤ)) → Decided (All (IsZeroAt x) rows)
zero_rows_told x [] = inl (All-nil (IsZeroAt x))
zero_rows_told x (row ∷ rows) = both (cases_order (up row x) (down row x)) (zero_rows_told x rows)
  where
    both : (up row x ≡ down row x) ⊎ ((up row x < down row x) ⊎ (down row x < up row x)) → Decided (All (IsZeroAt x) rows) → Decided (All (IsZeroAt x) (row ∷ rows))
    both (inl e) (inl h) = inl (All-cons (IsZeroAt x) row rows e h)
    both (inl e) (inr never) = inr (λ h. never (All-tail (IsZeroAt x) row rows h))
    both (inr n) h = inr (λ k. let e : IsZeroAt x row = All-head (IsZeroAt x) row rows k in absurd (omega (arith, e, n)))

-- a vector other than zero that sums to less than x, at which the rows are zero
abbrev Less : List (List ℤ) → List ℕ → List ℕ → Type 0
Less rows x y = All (IsZeroAt y) rows × (0 < sum y) × (sum y < sum x)

less_told : (rows : List (List ℤ)) (x y : List ℕ) → Decided (Less rows x y)
less_told rows x y = go (zero_rows_told y rows) (cases_lt 0 (sum y)) (cases_lt (sum y) (sum x))
  where
    go : Decided (All (IsZeroAt y) rows) → (0 < sum y) ⊎ (sum y ≤ 0) → (sum y < sum x) ⊎ (sum x ≤ sum y) → Decided (Less rows x y)
    go (inr never) p q = inr (λ h. never h.0)
    go (inl z) (inr p) q = inr (λ h. omega (arith, h.1, p))
    go (inl z) (inl p) (inr q) = inr (λ h. omega (arith, h.2, q))
    go (inl z) (inl p) (inl q) = inl (z, p, q)

module _ (columns : ℕ) (rows : List (List ℤ)) where
  Solves-below : (x y : List ℕ) → Solves columns rows x → IsAtOrBelow y x → All (IsZeroAt y) rows → Solves columns rows y
  Solves-below x y h k z =
      record {
        sized = below_length y x k ∙ h.sized;
        zero_rows = z;
        unused = λ j u. omega (arith, below_get_or y x j k, h.unused j u);
      }

  least_if_none : (x : List ℕ) → Solves columns rows x → IsNonZero x → (Below x (Less rows x) → ⊥) → IsMinimal columns rows x
  least_if_none x h p none =
      record {
        solves = h;
        nonzero = p;
        least = λ y k q l. below_same y x l (omega (arith, at_least y k q l));
      }
    where
      at_least : (y : List ℕ) → Solves columns rows y → IsNonZero y → IsAtOrBelow y x → sum x ≤ sum y
      at_least y k q l = split (cases_lt (sum y) (sum x))
        where
          split : (sum y < sum x) ⊎ (sum x ≤ sum y) → sum x ≤ sum y
          split (inl s) = absurd (none (y, l, (k.zero_rows, q, s)))
          split (inr e) = e

  pub minimal_below : (n : ℕ) (x : List ℕ) → sum x ≤ n → Solves columns rows x → IsNonZero x → (m : List ℕ) × IsMinimal columns rows m × IsAtOrBelow m x
  minimal_below zero x b h p = absurd (omega (arith, b, p))
  minimal_below (suc n) x b h p = go (below_told x (Less rows x) (less_told rows x)) (minimal_below n)
    where
      go : Decided (Below x (Less rows x)) → ((y : List ℕ) → sum y ≤ n → Solves columns rows y → IsNonZero y → (m : List ℕ) × IsMinimal columns rows m × IsAtOrBelow m y) → (m : List ℕ) × IsMinimal columns rows m × IsAtOrBelow m x
      go (inr none) further = (x, least_if_none x h p none, below_refl x)
      go (inl (y, l, s)) further =
          let r = further y (omega (arith, s.2, b)) (Solves-below x y h l s.0) s.1 in
          (r.0, r.1, below_trans r.0 y x r.2 l)

pub minimal_below_each : MinimalBelow
minimal_below_each columns rows x h p = minimal_below columns rows (sum x) x (omega arith) h p
