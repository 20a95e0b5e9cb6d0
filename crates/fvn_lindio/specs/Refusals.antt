-- Where a system is refused: at the first rows that have too many minimal solutions, or one with a large component.
use Rattle.std.specs.Prelude.{◌≡◌, ◌≢◌, ℕ, ◌+◌, ◌<◌, ◌≤◌, ℤ, List, length, take, All, AllPairs, Any}
use Rattle.fvn_base.specs.declared.limits.TheConstants.{COMPONENT}
use Rattle.fvn_lindio.specs.Systems.{IsMinimal}

module _ (columns : ℕ) (rows : List (List ℤ)) where
  -- the first k rows have more than so many minimal solutions: there is a list of one more, no two of them equal
  pub record HasTooMany (most k : ℕ) : Type 0 where
    pub list : List (List ℕ)
    pub one_more : length list ≡ most + 1
    pub apart : AllPairs ◌≢◌ list
    pub minimal : All (IsMinimal columns (take k rows)) list

  -- a minimal solution of the first k rows has a component over 65,535
  pub record HasTooWide (k : ℕ) : Type 0 where
    pub solution : List ℕ
    pub minimal : IsMinimal columns (take k rows) solution
    pub wide : Any (λ a. COMPONENT < a) solution

  -- none of the prefixes shorter than k has too many, or one that is too wide
  abbrev pub NoneShorter : ℕ → ℕ → Type 0
  NoneShorter most k = (j : ℕ) → j < k → (HasTooMany most j → ⊥) × (HasTooWide j → ⊥)

  -- the first k rows are the first prefix to be refused, and it is refused for this reason
  pub record IsTooMany (most k : ℕ) : Type 0 where
    pub within : k ≤ length rows
    pub many : HasTooMany most k
    pub first : NoneShorter most k

  -- the same for a component over 65,535, where there are not too many
  pub record IsTooWide (most k : ℕ) : Type 0 where
    pub within : k ≤ length rows
    pub few : HasTooMany most k → ⊥
    pub wide : HasTooWide k
    pub first : NoneShorter most k
