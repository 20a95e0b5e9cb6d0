-- What tests tell.
use Rattle.std.proofs.Common.{◌≡◌, ◌↔◌, ℕ, zero, suc, ◌+◌, Some, None, drop, Bool, true, false, List, [], ◌∷◌, refl, sym, ap, ◌∙◌, subst, arith, inl, inr, IsTrue}
use Rattle.std.specs.Prelude.{◌||◌, ◌&&◌, slice_get}
use Rattle.std.specs.List.{Contains, list_any, list_all}
use Rattle.fvn_base.proofs.Options.{Some-injective}
use Rattle.fvn_base.proofs.Membership.{contains_here, contains_later, contains_cases, contains_none}
use Rattle.std.proofs.lemmas.Bool.{false≢true, true≢false}
use Rattle.fvn_terms.specs.declared.plain.SortId.{SortId}
use Rattle.fvn_terms.specs.declared.declarations.Declarations.{Declarations}
use Rattle.fvn_terms.specs.Signature.{AtOrBelow}
use Rattle.fvn_forms.specs.SortOrder.{at_or_below}
use Rattle.fvn_forms.proofs.SortTests.{at_or_below-true, at_or_below-complete}

-- a test that tells what holds is the test of the definition
pub below_test : (d : Declarations) (s q : SortId) (r : Bool) → IsTrue r ↔ AtOrBelow d s q → r ≡ at_or_below d s q
below_test d s q true h = sym (at_or_below-complete d (h.0 refl))
below_test d s q false h = go (at_or_below d s q) refl
  where
    go : (b : Bool) → at_or_below d s q ≡ b → false ≡ at_or_below d s q
    go true e = absurd (false≢true (h.1 (at_or_below-true d s q e)))
    go false e = sym e

-- a test that some element passes
module _ {A : Type 0} (p : A → Bool) where
  pub any_true : (xs : List A) → list_any p xs ≡ true → (x : A) × (Contains xs x × (p x ≡ true))
  any_true [] e = absurd (false≢true e)
  any_true (x ∷ xs) e = go (p x) refl (any_true xs)
    where
      go : (b : Bool) → p x ≡ b → (list_any p xs ≡ true → (y : A) × (Contains xs y × (p y ≡ true))) → (y : A) × (Contains (x ∷ xs) y × (p y ≡ true))
      go true h rest = (x, (contains_here x xs, h))
      go false h rest = let r = rest (ap (λ b. b || list_any p xs) (sym h) ∙ e) in (r.0, (contains_later x xs r.0 r.1.0, r.1.1))

  pub any_false : (xs : List A) → list_any p xs ≡ false → (x : A) → Contains xs x → p x ≡ false
  any_false [] e x c = absurd (contains_none x c)
  any_false (y ∷ xs) e x c = go (p y) refl (any_false xs)
    where
      go : (b : Bool) → p y ≡ b → (list_any p xs ≡ false → (z : A) → Contains xs z → p z ≡ false) → p x ≡ false
      go true h rest = absurd (true≢false (ap (λ b. b || list_any p xs) (sym h) ∙ e))
      go false h rest = elim (contains_cases y xs x c) [
        | inl q ↦ subst (λ z. p z ≡ false) q h
        | inr i ↦ rest (ap (λ b. b || list_any p xs) (sym h) ∙ e) x i
      ]

  pub any_from : (xs : List A) (x : A) → Contains xs x → p x ≡ true → list_any p xs ≡ true
  any_from xs x c h = go (list_any p xs) refl
    where
      go : (b : Bool) → list_any p xs ≡ b → list_any p xs ≡ true
      go true e = e
      go false e = absurd (true≢false (sym h ∙ any_false xs e x c))

  -- a test that each element from a place on passes
  all_at : (xs : List A) (i : ℕ) (x : A) → slice_get xs i ≡ Some x → list_all p (drop i xs) ≡ (p x && list_all p (drop (suc i) xs))
  all_at [] i x e = let q : None ≡ Some x = e in cc
  all_at (y ∷ xs) zero x e = ap (λ z. p z && list_all p xs) (Some-injective e)
  all_at (y ∷ xs) (suc i) x e = all_at xs i x e

  next : (i : ℕ) → suc i ≡ i + 1
  next i = omega arith

  -- one more that passes, and one that does not
  pub all_passed : (xs : List A) (i : ℕ) (x : A) (b : Bool) → list_all p xs ≡ list_all p (drop i xs) → slice_get xs i ≡ Some x → b ≡ p x → b ≡ true → list_all p xs ≡ list_all p (drop (i + 1) xs)
  all_passed xs i x b h is t e = h ∙ all_at xs i x is ∙ ap (λ c. c && list_all p (drop (suc i) xs)) (sym t ∙ e) ∙ ap (λ n. list_all p (drop n xs)) (next i)

  pub not_passed : (xs : List A) (i : ℕ) (x : A) (b : Bool) → list_all p xs ≡ list_all p (drop i xs) → slice_get xs i ≡ Some x → b ≡ p x → b ≡ false → false ≡ list_all p xs
  not_passed xs i x b h is t e = sym (h ∙ all_at xs i x is ∙ ap (λ c. c && list_all p (drop (suc i) xs)) (sym t ∙ e))
