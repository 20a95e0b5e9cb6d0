-- What holds of the numbers so far.
use Rattle.std.proofs.Common.{◌≡◌, ℕ, ◌+◌, ◌<◌, ◌≤◌, List, [], length, get_or, slice_get, sym, ◌∙◌, subst, inl, inr, arith, Some}
use Rattle.std.proofs.lemmas.Bool.{cases_lt}
use Rattle.std.proofs.lemmas.List.{get_or_default}
use Rattle.std.proofs.lemmas.Option.{slice_get-get_or}
use Rattle.fvn_base.proofs.Options.{Some-injective}
use Rattle.fvn_lindio.specs.declared.system.Solution.{Solution}
use Rattle.fvn_combine_leaves.specs.declared.reading.Sums.{Sums}

-- one more number
pub more_below : (P : ℕ → Type 0) (i : ℕ) → ((k : ℕ) → k < i → P k) → P i → (k : ℕ) → k < i + 1 → P k
more_below P i h own k l = elim (cases_lt k i) [
  | inl below ↦ h k below
  | inr above ↦
      let is : i ≡ k = omega arith in
      subst P is own
]

-- one more number, from the last one down
pub more_above : (P : ℕ → Type 0) (n step k : ℕ) → k + step + 1 ≡ n → ((j : ℕ) → j < n → n ≤ j + step → P j) → P k → (j : ℕ) → j < n → n ≤ j + (step + 1) → P j
more_above P n step k is h own j l m = elim (cases_lt k j) [
  | inl above ↦ h j l (omega (arith, is, above))
  | inr below ↦
      let same : k ≡ j = omega (arith, is, below, m) in
      subst P same own
]

-- what holds of the operator at a place holds of each that stands there
pub at_operator : (P : Sums → Type 0) (sums : List Sums) (i : ℕ) (item : Sums) → i < length sums → item ≡ get_or sums i item → P item → (e : Sums) → slice_get sums i ≡ Some e → P e
at_operator P sums i item l at own e is = subst P (at ∙ Some-injective (sym (slice_get-get_or sums i item l) ∙ is)) own

-- the solutions at a place, as they are read
pub basis_at : (bases : List (List Solution)) (i : ℕ) (x ys : List Solution) → i < length bases → x ≡ get_or bases i x → ys ≡ x → get_or bases i [] ≡ ys
basis_at bases i x ys l at is = get_or_default bases i [] x l ∙ sym at ∙ sym is
