-- Lists of places: which are some of others.
use Rattle.std.proofs.Common.{◌≡◌, ℕ, zero, suc, ◌+◌, ◌<◌, ◌≤◌, Bool, true, false, nat_eq, if◌then◌else◌, List, [], ◌∷◌, ◌++◌, length, replicate, refl, sym, ap, ◌∙◌, subst, inl, inr, arith}
use Rattle.std.specs.Prelude.{◌⊎◌, ◌↔◌, IsTrue}
use Rattle.std.proofs.lemmas.Bool.{eqb-true, eq-eqb, false≢true}
use Rattle.fvn_cover_counts.specs.Places.{places_from}
use Rattle.fvn_cover_counts.specs.Profiles.{AreAtMost}
use Rattle.fvn_cover_counts.specs.inner.Comparing.{after_one, after_all, has_nothing, is_part}

-- all of the list is greater
abbrev AllAbove : ℕ → List ℕ → Type 0
AllAbove i [] = Unit {0}
AllAbove i (a ∷ xs) = (i < a) × AllAbove i xs

-- two numbers that differ
differ : (m n : ℕ) → (m ≡ n → ⊥) → nat_eq m n ≡ false
differ m n h = go (nat_eq m n) refl
  where
    go : (b : Bool) → nat_eq m n ≡ b → nat_eq m n ≡ false
    go true e = absurd (h (eqb-true m n e))
    go false e = e

-- where the list has no i, copies of i strike nothing off
part_skip : (n i : ℕ) (xs ys : List ℕ) → AllAbove i xs → after_all xs (replicate n i ++ ys) ≡ after_all xs ys
part_skip zero i xs ys h = refl
part_skip (suc n) i [] ys h = part_skip n i [] ys h
part_skip (suc n) i (a ∷ xs) ys h = let e = differ a i (λ k. let l = h.0 in omega (arith, l, k)) in ap (λ b. after_all (if b then xs else a ∷ xs) (replicate n i ++ ys)) e ∙ part_skip n i (a ∷ xs) ys h

part_left : (i : ℕ) (xs ys : List ℕ) → AllAbove i ys → after_all (i ∷ xs) ys ≡ i ∷ xs
part_left i xs [] h = refl
part_left i xs (b ∷ ys) h = let e = differ i b (λ k. let l = h.0 in omega (arith, l, k)) in rw e (part_left i xs ys h.1)

-- whether nothing is left after the others, where i comes first and is struck off or not
abbrev struck : Bool → List ℕ → ℕ → List ℕ → Bool
struck b xs i ys = has_nothing (after_all (if b then xs else i ∷ xs) ys)

part_fewer : (m n i : ℕ) (xs ys : List ℕ) → m ≤ n → AllAbove i xs → is_part (replicate m i ++ xs) (replicate n i ++ ys) ≡ is_part xs ys
part_fewer zero n i xs ys l h = ap has_nothing (part_skip n i xs ys h)
part_fewer (suc m) zero i xs ys l h = absurd (omega (arith, l))
part_fewer (suc m) (suc n) i xs ys l h = ap (λ b. struck b (replicate m i ++ xs) i (replicate n i ++ ys)) (eq-eqb i i refl) ∙ part_fewer m n i xs ys (omega (arith, l)) h

part_more : (m n i : ℕ) (xs ys : List ℕ) → n < m → AllAbove i ys → is_part (replicate m i ++ xs) (replicate n i ++ ys) ≡ false
part_more zero n i xs ys l h = absurd (omega (arith, l))
part_more (suc m) zero i xs ys l h = ap has_nothing (part_left i (replicate m i ++ xs) ys h)
part_more (suc m) (suc n) i xs ys l h = ap (λ b. struck b (replicate m i ++ xs) i (replicate n i ++ ys)) (eq-eqb i i refl) ∙ part_more m n i xs ys (omega (arith, l)) h

-- nothing is left of nothing
pub none_left : (ys : List ℕ) → after_all [] ys ≡ []
none_left [] = refl
none_left (b ∷ ys) = none_left ys

above_copies : (n i j : ℕ) (xs : List ℕ) → i < j → AllAbove i xs → AllAbove i (replicate n j ++ xs)
above_copies zero i j xs l h = h
above_copies (suc n) i j xs l h = (l, above_copies n i j xs l h)

places_above : (i j : ℕ) (ns : List ℕ) → i < j → AllAbove i (places_from j ns)
places_above i j [] l = tt
places_above i j (n ∷ ns) l = above_copies n i j (places_from (j + 1) ns) l (places_above i (j + 1) ns (omega (arith, l)))

pub at_most_or_more : (m n : ℕ) → (m ≤ n) ⊎ (n < m)
at_most_or_more zero n = inl (omega arith)
at_most_or_more (suc m) zero = inr (omega arith)
at_most_or_more (suc m) (suc n) = elim (at_most_or_more m n) [ inl l ↦ inl (omega (arith, l)) | inr l ↦ inr (omega (arith, l)) ]

-- places are some of others where each count is at most the other
pub part_columns : (i : ℕ) (ms ns : List ℕ) → IsTrue (is_part (places_from i ms) (places_from i ns)) ↔ AreAtMost ms ns
part_columns i [] ns = (λ t. tt, λ h. ap has_nothing (none_left (places_from i ns)))
part_columns i (zero ∷ ms) [] = let k = part_columns (i + 1) ms [] in (λ t. (refl, k.0 t), λ h. k.1 h.1)
part_columns i (suc m ∷ ms) [] = (λ t. absurd (false≢true t), λ h. let l = h.0 in absurd (omega (arith, l)))
part_columns i (m ∷ ms) (n ∷ ns) = go (at_most_or_more m n) (part_columns (i + 1) ms ns)
  where
    xs : List ℕ
    xs = places_from (i + 1) ms

    ys : List ℕ
    ys = places_from (i + 1) ns

    go : (m ≤ n) ⊎ (n < m) → IsTrue (is_part xs ys) ↔ AreAtMost ms ns → IsTrue (is_part (replicate m i ++ xs) (replicate n i ++ ys)) ↔ AreAtMost (m ∷ ms) (n ∷ ns)
    go (inl l) k = let e = part_fewer m n i xs ys l (places_above i (i + 1) ms (omega arith)) in (λ t. (l, k.0 (sym e ∙ t)), λ h. e ∙ k.1 h.1)
    go (inr l) k = let e = part_more m n i xs ys l (places_above i (i + 1) ns (omega arith)) in (λ t. absurd (false≢true (sym e ∙ t)), λ h. let f = h.0 in absurd (omega (arith, l, f)))

-- each of the others strikes off at most one
length_after_one : (xs : List ℕ) (b : ℕ) → length xs ≤ length (after_one xs b) + 1
length_after_one [] b = omega arith
length_after_one (a ∷ xs) b = go (nat_eq a b) refl
  where
    go : (t : Bool) → nat_eq a b ≡ t → length (a ∷ xs) ≤ length (after_one (a ∷ xs) b) + 1
    go true e = rw e (omega arith)
    go false e = rw e (omega arith)

length_after_all : (xs ys : List ℕ) → length xs ≤ length (after_all xs ys) + length ys
length_after_all xs [] = omega arith
length_after_all xs (b ∷ ys) = let k = length_after_one xs b in let l = length_after_all (after_one xs b) ys in omega arith

nothing_is_empty : (xs : List ℕ) → has_nothing xs ≡ true → xs ≡ []
nothing_is_empty [] e = refl
nothing_is_empty (a ∷ xs) e = cc

pub part_of_none : (xs : List ℕ) → IsTrue (is_part xs []) → xs ≡ []
part_of_none xs t = nothing_is_empty xs t

-- no list is part of a shorter one
pub part_length : (xs ys : List ℕ) → IsTrue (is_part xs ys) → length xs ≤ length ys
part_length xs ys t = let e = ap length (nothing_is_empty (after_all xs ys) t) in let l = length_after_all xs ys in omega arith

pub longer_is_no_part : (xs ys : List ℕ) → length ys < length xs → is_part xs ys ≡ false
longer_is_no_part xs ys l = go (is_part xs ys) refl
  where
    go : (t : Bool) → is_part xs ys ≡ t → is_part xs ys ≡ false
    go true e = let k = part_length xs ys e in absurd (omega (arith, l, k))
    go false e = e

-- with the same lists
pub part_same : (a b c d : List ℕ) → a ≡ c → b ≡ d → IsTrue (is_part a b) → IsTrue (is_part c d)
part_same a b c d e f t = subst (λ z. IsTrue (is_part c z)) f (subst (λ z. IsTrue (is_part z b)) e t)
