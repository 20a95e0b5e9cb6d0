-- What forms show is what the values show.
use Rattle.std.proofs.Common.{◌≡◌, ◌≤◌, ◌<◌, ◌+◌, ◌↔◌, ℕ, Bool, true, false, List, Option, Some, None, length, get_or, refl, sym, subst, ap, ◌∙◌, inl, inr, arith, below_more}
use Rattle.std.specs.Prelude.{IsTrue}
use Rattle.std.proofs.lemmas.Bool.{cases_lt}
use Rattle.fvn_terms.specs.declared.plain.Var.{Var}
use Rattle.fvn_terms.specs.Term.{Term}
use Rattle.fvn_terms.specs.Plain.{term}
use Rattle.fvn_theory.specs.declared.equation.Equation.{Equation}
use Rattle.fvn_weights.specs.declared.limits.TheConstants.{MOST}
use Rattle.fvn_weights.specs.declared.forms.Form.{Form}
use Rattle.fvn_weights.specs.declared.comparing.Outcome.{Outcome}
use Rattle.fvn_weights.specs.declared.comparing.Outcome.TheVariants.{Falling, Big, Growing}
use Rattle.fvn_weights.specs.Values.{Linear, constant_of, factor_of}
use Rattle.fvn_weights.specs.Weighing.{IsOver, IsBig, IsGrowing}
use Rattle.fvn_weights.specs.inner.Numbers.{found, place, TellsAbove}
use Rattle.fvn_weights.specs.inner.Forms.{IsFormOf, IsOverForm, AreOver, IsGrowingForm, ShowForms}
use Rattle.fvn_weights.specs.inner.Equations.{IsOutcome}
use Rattle.fvn_weights.proofs.Capping.{over_alike, small_alike}
use Rattle.fvn_weights.proofs.Placing.{placed_within, placed_variable, placed_number, unplaced_number}
use Rattle.fvn_weights.proofs.FitTests.{contradicts}

-- what is not above is at most that
pub not_above : (a b : ℕ) → (a < b → ⊥) → b ≤ a
not_above a b h = elim (cases_lt a b) as (λ _. b ≤ a) [
  | inl less ↦ absurd (h less)
  | inr le ↦ le
]

-- lists that are the same have the same numbers
pub found_alike : (n : ℕ) (ps qs : List (Var × ℕ)) (x : Var) → n ≡ found ps x → ps ≡ qs → n ≡ found qs x
found_alike n ps qs x e same = e ∙ ap (λ l. found l x) same

-- whether the number of some variable is above its bound, place by place
module _ (bound : Var → ℕ) (ps : List (Var × ℕ)) where
  -- the number that stands there is not above
  pub own_at_most : (i : ℕ) (d : Var × ℕ) (b : Bool) (m : ℕ) → m ≡ bound (get_or ps i d).0 → (IsTrue b ↔ (m < (get_or ps i d).1)) → b ≡ false → TellsAbove bound ps i false
  own_at_most i d b m is test e = λ x p.
      let n : found ps x ≡ (get_or ps i d).1 = placed_number x ps i d p in
      let le : (get_or ps i d).1 ≤ m = not_above m (get_or ps i d).1 (λ h. contradicts b (test.1 h) e) in
      let same : m ≡ bound x = is ∙ ap bound (placed_variable x ps i d p) in
      omega (arith, n, le, same)

  -- the number of the variable is tested
  pub tells_above : (i : ℕ) (d : Var × ℕ) (b : Bool) (m n : ℕ) → m ≡ bound (get_or ps i d).0 → n ≡ found ps (get_or ps i d).0 → (IsTrue b ↔ (m < n)) → TellsAbove bound ps i b
  tells_above i d true m n e f test = ((get_or ps i d).0, let h : m < n = test.0 refl in omega (arith, e, f, h))
  tells_above i d false m n e f test = λ x p.
      let le : n ≤ m = not_above m n (λ h. contradicts false (test.1 h) refl) in
      let same : m ≡ bound x = e ∙ ap bound (placed_variable x ps i d p) in
      let number : n ≡ found ps x = f ∙ ap (found ps) (placed_variable x ps i d p) in
      omega (arith, le, same, number)

  -- none so far
  pub none_told : (j : ℕ) → j < 0 → TellsAbove bound ps j false
  none_told j l = absurd (omega (arith, l))

  pub one_passed : (i : ℕ) (b : Bool) → TellsAbove bound ps i b → b ≡ false → ((j : ℕ) → j < i → TellsAbove bound ps j false) → (j : ℕ) → j < i + 1 → TellsAbove bound ps j false
  one_passed i b h e before = below_more (λ j. TellsAbove bound ps j false) i before (subst (TellsAbove bound ps i) e h)

  pub one_above : (i : ℕ) (b : Bool) → TellsAbove bound ps i b → b ≡ true → IsTrue true ↔ ((x : Var) × (bound x < found ps x))
  one_above i b h e = (λ t. subst (TellsAbove bound ps i) e h, λ p. refl)

  pub none_above : (i : ℕ) → length ps ≤ i → ((j : ℕ) → j < i → TellsAbove bound ps j false) → IsTrue false ↔ ((x : Var) × (bound x < found ps x))
  none_above i le before = (λ t. absurd (contradicts false t refl), λ p. absurd (above p.0 p.1))
    where
      above : (x : Var) → bound x < found ps x → ⊥
      above x h = go (place ps x) refl where
        go : (o : Option ℕ) → place ps x ≡ o → ⊥
        go None e = let z : found ps x ≡ 0 = unplaced_number x ps e in omega (arith, z, h)
        go (Some j) e = let l = placed_within x ps j e in let q : found ps x ≤ bound x = before j (omega (arith, l, le)) x e in omega (arith, q, h)

module _ (w : Linear) where
  over_there : (t : Term) (form : Form) → IsFormOf w t form → IsOverForm form → IsOver w t
  over_there t form f (inl h) = inl (over_alike form.constant (constant_of w t) f.constant_is h)
  over_there t form f (inr p) = inr (p.0, over_alike (found form.factors.items p.0) (factor_of w p.0 t) (f.factors_are p.0) p.1)

  over_back : (t : Term) (form : Form) → IsFormOf w t form → IsOver w t → IsOverForm form
  over_back t form f (inl h) = inl (over_alike (constant_of w t) form.constant (sym f.constant_is) h)
  over_back t form f (inr p) = inr (p.0, over_alike (factor_of w p.0 t) (found form.factors.items p.0) (sym (f.factors_are p.0)) p.1)

  -- where nothing is over, the numbers are exact
  constant_exact : (t : Term) (form : Form) → IsFormOf w t form → (IsOver w t → ⊥) → form.constant ≡ constant_of w t
  constant_exact t form f none_over = small_alike form.constant (constant_of w t) f.constant_is (not_above MOST (constant_of w t) (λ h. none_over (inl h)))

  factor_exact : (t : Term) (form : Form) (x : Var) → IsFormOf w t form → (IsOver w t → ⊥) → found form.factors.items x ≡ factor_of w x t
  factor_exact t form x f none_over = small_alike (found form.factors.items x) (factor_of w x t) (f.factors_are x) (not_above MOST (factor_of w x t) (λ h. none_over (inr (x, h))))

  module _ (e : Equation) (l r : Form) (f : IsFormOf w (term e.left) l) (g : IsFormOf w (term e.right) r) where
    big_there : AreOver l r → IsBig w e
    big_there (inl h) = inl (over_there (term e.left) l f h)
    big_there (inr h) = inr (over_there (term e.right) r g h)

    big_back : IsBig w e → AreOver l r
    big_back (inl h) = inl (over_back (term e.left) l f h)
    big_back (inr h) = inr (over_back (term e.right) r g h)

    module _ (small : IsBig w e → ⊥) where
      left_constant : l.constant ≡ constant_of w (term e.left)
      left_constant = constant_exact (term e.left) l f (λ o. small (inl o))

      right_constant : r.constant ≡ constant_of w (term e.right)
      right_constant = constant_exact (term e.right) r g (λ o. small (inr o))

      left_factor : (x : Var) → found l.factors.items x ≡ factor_of w x (term e.left)
      left_factor x = factor_exact (term e.left) l x f (λ o. small (inl o))

      right_factor : (x : Var) → found r.factors.items x ≡ factor_of w x (term e.right)
      right_factor x = factor_exact (term e.right) r x g (λ o. small (inr o))

      growing_there : IsGrowingForm l r → IsGrowing w e
      growing_there (inl h) = inl (let a = left_constant in let b = right_constant in omega (arith, a, b, h))
      growing_there (inr p) = inr (p.0, let a = left_factor p.0 in let b = right_factor p.0 in let h = p.1 in omega (arith, a, b, h))

      growing_back : IsGrowing w e → IsGrowingForm l r
      growing_back (inl h) = inl (let a = left_constant in let b = right_constant in omega (arith, a, b, h))
      growing_back (inr p) = inr (p.0, let a = left_factor p.0 in let b = right_factor p.0 in let h = p.1 in omega (arith, a, b, h))

    -- what the forms of the two sides show is so of the equation
    pub outcome_is : (o : Outcome) → ShowForms l r o → IsOutcome w e o
    outcome_is Falling h = record { small = λ b. h.0 (big_back b); falls = λ q. h.1 (growing_back (λ b. h.0 (big_back b)) q) }
    outcome_is Big h = big_there h
    outcome_is Growing h = (λ b. h.0 (big_back b), growing_there (λ b. h.0 (big_back b)) h.1)
