-- Vectors that differ only where a row has no coefficient.
use Rattle.std.proofs.Common.{◌≡◌, ◌⊎◌, ℕ, zero, suc, ◌*◌, ◌<◌, List, [], ◌∷◌, length, get_or, refl, sym, ap, ◌∙◌, inl, inr, arith}
use Rattle.std.specs.Prelude.{ℤ, pos, negsuc}
use Rattle.std.proofs.lemmas.List.Elements.{All-head, All-tail, All-cons, All-nil}
use Rattle.fvn_base.specs.Decided.{Decided}
use Rattle.fvn_lindio.specs.Systems.{above, below, up, down, IsZeroAt, IsUnused}

-- the row has no coefficient at j, or the vectors agree there
abbrev pub AgreeWhereUsed : List ℤ → List ℕ → List ℕ → Type 0
AgreeWhereUsed row x y = (j : ℕ) → j < length x → (get_or row j (pos 0) ≡ pos 0) ⊎ (get_or x j 0 ≡ get_or y j 0)

one_place : (f : ℤ → ℕ) → f (pos 0) ≡ 0 → (c : ℤ) (a b : ℕ) → (c ≡ pos 0) ⊎ (a ≡ b) → f c * a ≡ f c * b
one_place f z c a b (inl e) = let n : f c ≡ 0 = ap f e ∙ z in let p : f c * a ≡ 0 * a = ap (λ k. k * a) n in let q : f c * b ≡ 0 * b = ap (λ k. k * b) n in omega (arith, p, q)
one_place f z c a b (inr e) = ap (λ k. f c * k) e

-- the row gives the same at both
pub agree_up : (row : List ℤ) (x y : List ℕ) → length x ≡ length y → AgreeWhereUsed row x y → (up row x ≡ up row y) × (down row x ≡ down row y)
agree_up [] x y n h = (refl, refl)
agree_up (c ∷ row) [] [] n h = (refl, refl)
agree_up (c ∷ row) [] (b ∷ y) n h = absurd (omega (arith, n))
agree_up (c ∷ row) (a ∷ x) [] n h = absurd (omega (arith, n))
agree_up (c ∷ row) (a ∷ x) (b ∷ y) n h =
    let rest = agree_up row x y (omega (arith, n)) (λ j l. h (suc j) (omega arith)) in
    let high = one_place above refl c a b (h 0 (omega arith)) in
    let low = one_place below refl c a b (h 0 (omega arith)) in
    (omega (arith, high, rest.0), omega (arith, low, rest.1))

pub agree_zero : (row : List ℤ) (x y : List ℕ) → length x ≡ length y → AgreeWhereUsed row x y → IsZeroAt x row → IsZeroAt y row
agree_zero row x y n h e = let s = agree_up row x y n h in sym s.0 ∙ e ∙ s.1

pub agree_swap : (row : List ℤ) (x y : List ℕ) → length x ≡ length y → AgreeWhereUsed row x y → AgreeWhereUsed row y x
agree_swap row x y n h j l = elim (h j (omega (arith, n))) [ inl z ↦ inl z | inr e ↦ inr (sym e) ]

-- whether a number is zero
pub zero_told : (z : ℤ) → Decided (z ≡ pos 0)
zero_told (pos zero) = inl refl
zero_told (pos (suc n)) = inr (λ e. let f : above (pos (suc n)) ≡ 0 = ap above e in omega (arith, f))
zero_told (negsuc n) = inr (λ e. let f : below (negsuc n) ≡ 0 = ap below e in omega (arith, f))

-- whether some row uses a column
pub unused_told : (rows : List (List ℤ)) (j : ℕ) → Decided (IsUnused rows j)
unused_told [] j = inl (All-nil (λ row. get_or row j (pos 0) ≡ pos 0))
unused_told (row ∷ rows) j =
    let P = λ (r : List ℤ). get_or r j (pos 0) ≡ pos 0 in
    elim (zero_told (get_or row j (pos 0))) [
      | inl z ↦ elim (unused_told rows j) [
        | inl u ↦ inl (All-cons P row rows z u)
        | inr n ↦ inr (λ h. n (All-tail P row rows h))
      ]
      | inr n ↦ inr (λ h. n (All-head P row rows h))
    ]

-- the vector with 0 at certain places
pub record Zeroed (P : ℕ → Type 0) (y : List ℕ) : Type 0 where
  pub vector : List ℕ
  pub sized : length vector ≡ length y
  pub zero : (j : ℕ) → P j → get_or vector j 0 ≡ 0
  pub kept : (j : ℕ) → (P j → ⊥) → get_or vector j 0 ≡ get_or y j 0

pub zeroed : (P : ℕ → Type 0) → ((j : ℕ) → Decided (P j)) → (y : List ℕ) → Zeroed P y
zeroed P told [] = record { vector = []; sized = refl; zero = λ j h. refl; kept = λ j h. refl }
zeroed P told (a ∷ y) = go (told 0) (zeroed (λ j. P (suc j)) (λ j. told (suc j)) y)
  where
    go : Decided (P 0) → Zeroed (λ j. P (suc j)) y → Zeroed P (a ∷ y)
    go (inl h) r = record { vector = 0 ∷ r.vector; sized = ap suc r.sized; zero = at_zero; kept = at_kept }
      where
        at_zero : (j : ℕ) → P j → get_or (0 ∷ r.vector) j 0 ≡ 0
        at_zero zero p = refl
        at_zero (suc j) p = r.zero j p

        at_kept : (j : ℕ) → (P j → ⊥) → get_or (0 ∷ r.vector) j 0 ≡ get_or (a ∷ y) j 0
        at_kept zero n = absurd (n h)
        at_kept (suc j) n = r.kept j n
    go (inr h) r = record { vector = a ∷ r.vector; sized = ap suc r.sized; zero = at_zero; kept = at_kept }
      where
        at_zero : (j : ℕ) → P j → get_or (a ∷ r.vector) j 0 ≡ 0
        at_zero zero p = absurd (h p)
        at_zero (suc j) p = r.zero j p

        at_kept : (j : ℕ) → (P j → ⊥) → get_or (a ∷ r.vector) j 0 ≡ get_or (a ∷ y) j 0
        at_kept zero n = refl
        at_kept (suc j) n = r.kept j n
