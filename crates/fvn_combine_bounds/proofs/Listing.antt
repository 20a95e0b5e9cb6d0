-- Lists of columns, column by column, and nodes of a class.
use Rattle.std.proofs.Common.{◌≡◌, ℕ, ◌+◌, ◌<◌, ◌≤◌, Bool, true, false, List, [], ◌∷◌, ◌++◌, refl, subst, inl, inr, arith, Contains}
use Rattle.std.specs.Prelude.{◌↔◌, IsTrue, not}
use Rattle.std.proofs.lemmas.Bool.{cases_lt}
use Rattle.std.proofs.lemmas.List.Elements.{Contains-append_left, Contains-push, Contains-push_cases}
use Rattle.fvn_combine_bounds.specs.Bounding.{AreColumnsBelow}

pub no_columns : (P : ℕ → Type 0) → AreColumnsBelow P 0 []
no_columns P j = (λ m. let l = m.1 in absurd (omega (arith, l)), λ m. let l = m.0 in absurd (omega (arith, l)))

-- where it holds of none the list is empty
pub never_columns : (P : ℕ → Type 0) (n : ℕ) → ((j : ℕ) → P j → ⊥) → AreColumnsBelow P n []
never_columns P n none j = (λ m. let l = m.1 in absurd (omega (arith, l)), λ m. absurd (none j m.1))

pub one_column : (P : ℕ → Type 0) (i : ℕ) (list : List ℕ) → AreColumnsBelow P i list → P i → AreColumnsBelow P (i + 1) (list ++ i ∷ [])
one_column P i list h here j = (
  λ m. elim (Contains-push_cases list i j m) [
    | inl before ↦ let p = (h j).0 before in (let l = p.0 in omega (arith, l), p.1)
    | inr same ↦ (omega (arith, same), subst P same here)
  ],
  λ m. elim (cases_lt j i) [
    | inl below ↦ Contains-append_left list (i ∷ []) j ((h j).1 (below, m.1))
    | inr above ↦ subst (Contains (list ++ i ∷ [])) (let l = m.0 in omega (arith, above, l)) (Contains-push list i)
  ],
)

pub no_column : (P : ℕ → Type 0) (i : ℕ) (list : List ℕ) → AreColumnsBelow P i list → (P i → ⊥) → AreColumnsBelow P (i + 1) list
no_column P i list h not_here j = (
  λ m. let p = (h j).0 m in (let l = p.0 in omega (arith, l), p.1),
  λ m. elim (cases_lt j i) [
    | inl below ↦ (h j).1 (below, m.1)
    | inr above ↦ absurd (not_here (subst P (let l = m.0 in omega (arith, above, l)) m.1))
  ],
)

pub all_columns : (P : ℕ → Type 0) (i n : ℕ) (list : List ℕ) → n ≤ i → i ≤ n → AreColumnsBelow P i list → AreColumnsBelow P n list
all_columns P i n list l m h = let same : i ≡ n = omega arith in subst (λ k. AreColumnsBelow P k list) same h

-- what holds of the same columns has the same list
pub same_columns : (P Q : ℕ → Type 0) (n : ℕ) (list : List ℕ) → ((j : ℕ) → j < n → P j ↔ Q j) → AreColumnsBelow P n list → AreColumnsBelow Q n list
same_columns P Q n list same h j = (
  λ m. let p = (h j).0 m in (p.0, (same j p.0).0 p.1),
  λ m. (h j).1 (m.0, (same j m.0).1 m.1),
)

-- a test turned round
pub not_told : {A : Type 0} (b : Bool) → IsTrue b ↔ A → IsTrue (not b) ↔ (A → ⊥)
not_told true h = (λ e. cc, λ n. absurd (n (h.0 refl)))
not_told false h = (λ _ a. let e : false ≡ true = h.1 a in cc, λ _. refl)
