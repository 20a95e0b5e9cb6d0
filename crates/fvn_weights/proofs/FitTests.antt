-- Weights that fit, test by test.
use Rattle.std.proofs.Common.{◌≡◌, ◌≤◌, ◌<◌, ◌+◌, ◌↔◌, ℕ, zero, suc, Bool, true, false, List, [], ◌∷◌, None, Some, length, get_or, slice_get, inl, inr, refl, sym, subst, ap, ◌∙◌, arith, below_more}
use Rattle.std.specs.Prelude.{nat_eq}
use Rattle.std.proofs.lemmas.Bool.{eqb-true, eq-eqb, cases_lt}
use Rattle.std.proofs.lemmas.List.{get_or_default, get_or_past}
use Rattle.std.proofs.lemmas.Option.{slice_get_past}
use Rattle.fvn_terms.specs.declared.plain.OpId.{OpId}
use Rattle.fvn_terms.specs.declared.declarations.Axioms.TheVariants.{Free}
use Rattle.fvn_terms.specs.declared.declarations.OpDecl.{OpDecl}
use Rattle.fvn_terms.specs.declared.declarations.Declarations.{Declarations}
use Rattle.fvn_terms.specs.Signature.{axioms, unknown}
use Rattle.fvn_terms.specs.Equality.{identity, IsAssociative, IsCommutative}
use Rattle.fvn_weights.specs.declared.weights.Weight.{Weight}
use Rattle.fvn_weights.specs.Values.{Fits}
use Rattle.fvn_weights.specs.Weighing.{linear, coefficient_in, AllFit}

-- a test does not say both
pub contradicts : (b : Bool) → b ≡ true → b ≡ false → ⊥
contradicts b p q = let z : true ≡ false = sym p ∙ q in cc

-- where a test that P passes fails, P does not hold
pub refused : (P : Type 0) (b : Bool) → (P → b ≡ true) → b ≡ false → (false ≡ true → P) × (P → false ≡ true)
refused P b passed e = (λ t. absurd (contradicts b (passed_by t) e), λ p. sym e ∙ passed p) where
  passed_by : false ≡ true → b ≡ true
  passed_by t = e ∙ t

-- a test of two numbers
pub equal_numbers : (a b m n : ℕ) → a ≡ m → b ≡ n → (nat_eq a b ≡ true) ↔ (m ≡ n)
equal_numbers a b m n p q = (λ e. sym p ∙ eqb-true a b e ∙ q, λ h. eq-eqb a b (p ∙ h ∙ sym q))

positive_of : (n : ℕ) → nat_eq n 0 ≡ false → 1 ≤ n
positive_of zero e = absurd (contradicts true refl e)
positive_of (suc n) e = omega arith

-- a number that is not nothing
pub positive_at : (ns : List ℕ) (i d : ℕ) → i < length ns → nat_eq (get_or ns i d) 0 ≡ false → 1 ≤ get_or ns i 1
positive_at ns i d within e = subst (λ n. 1 ≤ n) (get_or_default ns i d 1 within) (positive_of (get_or ns i d) e)

-- a number that is nothing
pub nothing_at : (ns : List ℕ) (i d : ℕ) → i < length ns → nat_eq (get_or ns i d) 0 ≡ true → ((j : ℕ) → 1 ≤ get_or ns j 1) → ⊥
nothing_at ns i d within e h =
    let z : get_or ns i d ≡ 0 = eqb-true (get_or ns i d) 0 e in
    let same : get_or ns i d ≡ get_or ns i 1 = get_or_default ns i d 1 within in
    let p : 1 ≤ get_or ns i 1 = h i in
    omega (arith, z, same, p)

past_one : (ns : List ℕ) (j : ℕ) → (j < length ns → 1 ≤ get_or ns j 1) → 1 ≤ get_or ns j 1
past_one [] j h = omega arith
past_one (n ∷ ns) zero h = h (omega arith)
past_one (n ∷ ns) (suc j) h = past_one ns j (λ l. h (omega arith))

-- all numbers that there are
pub all_positive : (ns : List ℕ) (i : ℕ) → length ns ≤ i → ((k : ℕ) → k < i → 1 ≤ get_or ns k 1) → (j : ℕ) → 1 ≤ get_or ns j 1
all_positive ns i le h j = past_one ns j (λ l. h j (omega arith))

same_op : (f g : OpId) → f.0 ≡ g.0 → f ≡ g
same_op f g e = λ i. record { 0 = e i }

module _ (d : Declarations) (ws : List Weight) where
  -- one operator more
  pub fits_more : (n : ℕ) (f : OpId) → f.0 ≡ n → ((g : OpId) → g.0 < n → Fits d (linear ws) g) → Fits d (linear ws) f → (g : OpId) → g.0 < n + 1 → Fits d (linear ws) g
  fits_more n f is before here g less =
      below_more (λ k. (h : OpId) → h.0 ≡ k → Fits d (linear ws) h) n (λ k m h e. before h (omega arith)) (λ h e. subst (Fits d (linear ws)) (same_op f h (is ∙ sym e)) here) g.0 less g refl

  -- a number that is no operator
  fits_past : length ws ≡ length d.ops → (f : OpId) → length d.ops ≤ f.0 → Fits d (linear ws) f
  fits_past count f past =
      let none_is : slice_get ws f.0 ≡ None = slice_get_past ws f.0 (omega arith) in
      let free : axioms d f ≡ Free = ap (λ (o : OpDecl). o.axioms) (get_or_past d.ops f.0 unknown past) in
      record {
        positive = λ i. subst (λ o. 1 ≤ coefficient_in o i) (sym none_is) (omega arith);
        alike = λ k. absurd (subst IsCommutative free k);
        ones = λ k. absurd (subst IsAssociative free k);
        neutral = λ e is. absurd (let q : None ≡ Some e = ap identity (sym free) ∙ is in cc);
      }

  -- all operators
  pub all_fit : length ws ≡ length d.ops → (n : ℕ) → length d.ops ≤ n → ((g : OpId) → g.0 < n → Fits d (linear ws) g) → AllFit d (linear ws)
  all_fit count n le before f = elim (cases_lt f.0 n) as (λ _. Fits d (linear ws) f) [
    | inl less ↦ before f less
    | inr past ↦ fits_past count f (omega arith)
  ]
