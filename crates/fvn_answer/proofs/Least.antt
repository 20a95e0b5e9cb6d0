-- The order of texts, and numberings in another order.
use Rattle.std.proofs.Common.{◌≡◌, ℕ, ◌<◌, Bool, true, false, ◌⊎◌, inl, inr, List, [], ◌∷◌, length, get_or, refl, sym, ◌∙◌, subst, arith}
use Rattle.std.specs.List.{swap}
use Rattle.std.specs.declared.cmp.Ordering.TheVariants.{Less, Equal, Greater}
use Rattle.std.specs.Ordering.{is_lt, ordering_then, nat_cmp}
use Rattle.std.specs.Cmp.Lexicographic.{slice_cmp}
use Rattle.std.specs.Bool.{Decides}
use Rattle.std.specs.Cmp.{nat_cmp_is}
use Rattle.std.specs.List.Sorted.{IsPermutation}
use Rattle.std.proofs.lemmas.Bool.{cases_order}
use Rattle.std.proofs.lemmas.List.Sorted.{Contains-permutation, IsPermutation-sym, length_permutation}
use Rattle.std.proofs.lemmas.Map.Keys.{IsDistinct-IsPermutation}
use Rattle.std.proofs.lemmas.Map.Made.{AllPairs-from_IsDistinct, IsDistinct-from_AllPairs}
use Rattle.std.proofs.lemmas.List.{ext_get_or}
use Rattle.fvn_base.specs.Order.{IsBefore}
use Rattle.fvn_base.proofs.Pigeonhole.{length-le_within}
use Rattle.fvn_terms.specs.declared.plain.Var.{Var}
use Rattle.fvn_terms.specs.Substitution.{same_var}
use Rattle.fvn_terms.proofs.Variables.{same_var_is, same_var_itself}
use Rattle.fvn_forms.specs.Flat.{FlatTerm}
use Rattle.fvn_syntax.specs.Pieces.{Text}
use Rattle.fvn_answer.specs.Numberings.{IsNumbering}

-- Order of texts.

pub before-lt : (s t : Text) → is_lt (slice_cmp nat_cmp s t) ≡ true → IsBefore s t
before-lt [] [] h = cc
before-lt [] (b ∷ t) h = tt
before-lt (a ∷ s) [] h = cc
before-lt (a ∷ s) (b ∷ t) h = go (cases_order a b) (before-lt s t)
  where
    go : (a ≡ b) ⊎ ((a < b) ⊎ (b < a)) → (is_lt (slice_cmp nat_cmp s t) ≡ true → IsBefore s t) → (a < b) ⊎ ((a ≡ b) × IsBefore s t)
    go (inl e) rest = inr (e, rest (subst (λ r. is_lt (ordering_then r (slice_cmp nat_cmp s t)) ≡ true) (sym (nat_cmp_is a b Equal e)) h))
    go (inr (inl l)) rest = inl l
    go (inr (inr l)) rest =
        let n : false ≡ true = subst (λ r. is_lt (ordering_then r (slice_cmp nat_cmp s t)) ≡ true) (sym (nat_cmp_is a b Greater l)) h in cc

pub before-not : (s t : Text) → is_lt (slice_cmp nat_cmp s t) ≡ false → IsBefore s t → ⊥
before-not [] [] h b = b
before-not [] (b ∷ t) h k = cc
before-not (a ∷ s) [] h k = k
before-not (a ∷ s) (b ∷ t) h (inl l) =
    let n : true ≡ false = subst (λ r. is_lt (ordering_then r (slice_cmp nat_cmp s t)) ≡ false) (sym (nat_cmp_is a b Less l)) h in cc
before-not (a ∷ s) (b ∷ t) h (inr r) =
    before-not s t (subst (λ o. is_lt (ordering_then o (slice_cmp nat_cmp s t)) ≡ false) (sym (nat_cmp_is a b Equal r.0)) h) r.1

pub not-before : (s t : Text) → (IsBefore s t → ⊥) → is_lt (slice_cmp nat_cmp s t) ≡ false
not-before s t n = go (is_lt (slice_cmp nat_cmp s t)) refl
  where
    go : (b : Bool) → is_lt (slice_cmp nat_cmp s t) ≡ b → is_lt (slice_cmp nat_cmp s t) ≡ false
    go true e = absurd (n (before-lt s t e))
    go false e = e

-- of three texts, what stands before one stands before a second, or that one before the other
pub before-split : (r s t : Text) → IsBefore r s → (IsBefore t s → ⊥) → IsBefore r t
before-split r [] t h n = absurd (none r h)
  where
    none : (r : Text) → IsBefore r [] → ⊥
    none [] h = h
    none (a ∷ r) h = h
before-split [] (b ∷ s) [] h n = absurd (n tt)
before-split [] (b ∷ s) (c ∷ t) h n = tt
before-split (a ∷ r) (b ∷ s) [] h n = absurd (n tt)
before-split (a ∷ r) (b ∷ s) (c ∷ t) h n = go h (cases_order b c) (before-split r s t)
  where
    go : (a < b) ⊎ ((a ≡ b) × IsBefore r s) → (b ≡ c) ⊎ ((b < c) ⊎ (c < b)) → (IsBefore r s → (IsBefore t s → ⊥) → IsBefore r t) → (a < c) ⊎ ((a ≡ c) × IsBefore r t)
    go (inl l) (inl e) rest = inl (omega (arith, e))
    go (inl l) (inr (inl m)) rest = inl (omega arith)
    go (inl l) (inr (inr m)) rest = absurd (n (inl m))
    go (inr p) (inl e) rest = inr (p.0 ∙ e, rest p.1 (λ k. n (inr (sym e, k))))
    go (inr p) (inr (inl m)) rest = inl (omega (arith, p.0))
    go (inr p) (inr (inr m)) rest = absurd (n (inl m))

-- Numberings.

decides : (x y : Var) → Decides (same_var x y) (x ≡ y)
decides x y = (same_var_is x y, λ e. subst (λ z. same_var x z ≡ true) e (same_var_itself x))

flips : (x y : Var) → same_var x y ≡ same_var y x
flips x y = go (same_var x y) (same_var y x) refl refl
  where
    go : (a b : Bool) → same_var x y ≡ a → same_var y x ≡ b → same_var x y ≡ same_var y x
    go true true p q = p ∙ sym q
    go true false p q = let e = (decides y x).1 (sym (same_var_is x y p)) in cc
    go false true p q = let e = (decides x y).1 (sym (same_var_is y x q)) in cc
    go false false p q = p ∙ sym q

pub numbering-permutation : (ts : List FlatTerm) (xs ys : List Var) → IsPermutation xs ys → IsNumbering ts xs → IsNumbering ts ys
numbering-permutation ts xs ys p n = record {
  exact = λ x. (λ h. (n.exact x).0 (Contains-permutation ys xs x (IsPermutation-sym xs ys p) h), λ o. Contains-permutation xs ys x p ((n.exact x).1 o));
  distinct = AllPairs-from_IsDistinct decides ys (IsDistinct-IsPermutation same_var flips xs ys p (IsDistinct-from_AllPairs decides xs n.distinct));
}

pub same-length : (ts : List FlatTerm) (xs ys : List Var) → IsNumbering ts xs → IsNumbering ts ys → length xs ≡ length ys
same-length ts xs ys n m =
    let a = length-le_within xs ys n.distinct (λ x c. (m.exact x).1 ((n.exact x).0 c)) in
    let b = length-le_within ys xs m.distinct (λ x c. (n.exact x).1 ((m.exact x).0 c)) in
    omega arith

pub same-lists : (xs ys : List Var) → length xs ≡ length ys → ((i : ℕ) (x : Var) → i < length xs → get_or xs i x ≡ get_or ys i x) → xs ≡ ys
same-lists [] [] e h = refl
same-lists [] (y ∷ ys) e h = absurd (omega (arith, e))
same-lists (x ∷ xs) ys e h = ext_get_or x (x ∷ xs) ys e (λ i l. h i x l)

swap-permutation : (xs ys : List Var) (k i : ℕ) → k < length xs → i < length xs → ys ≡ swap xs k i → IsPermutation xs ys
swap-permutation xs ys k i low high e = record { moves = (k, i) ∷ []; below = (low, high, tt); is = e }

-- the order with two variables exchanged
pub exchanged-length : (order ys : List Var) (k i : ℕ) → k < length order → i < length order → ys ≡ swap order k i → length ys ≡ length order
exchanged-length order ys k i low high e = length_permutation order ys (swap-permutation order ys k i low high e)

pub exchanged-numbering : (ts : List FlatTerm) (order ys : List Var) (k i : ℕ) → k < length order → i < length order → ys ≡ swap order k i → IsNumbering ts order → IsNumbering ts ys
exchanged-numbering ts order ys k i low high e n = numbering-permutation ts order ys (swap-permutation order ys k i low high e) n
