-- What the highest bits of a number tell of every number that begins with them.
use Rattle.std.specs.Prelude.{◌≡◌, ℕ, ◌/◌, ◌^◌, ◌+◌, ◌<◌, ◌≤◌, Bool, true, false, if◌then◌else◌, List, length, nat_lt, slice_index, slice_index_or, sum_by, Option, Some, None, All}
use Rattle.fvn_base.specs.declared.limits.TheConstants.{COMPONENT}
use Rattle.fvn_lindio.specs.declared.system.Solution.{Solution}
use Rattle.fvn_acunify.specs.declared.limits.TheConstants.{LISTED_SOLUTIONS}
use Rattle.fvn_acunify.specs.declared.theory.ColumnBounds.{ColumnBounds}
use Rattle.fvn_acunify.specs.ValidChoice.{touched}

-- few solutions, of so many columns and with small components, and constants among these columns
pub record IsBounded (columns : ℕ) (constants : List ℕ) (basis : List Solution) : Type 0 where
  pub few : length basis ≤ LISTED_SOLUTIONS
  pub sized : All (λ v. length v.parts ≡ columns) basis
  pub narrow : All (λ v. All (λ a. a ≤ COMPONENT) v.parts) basis
  pub among : All (λ c. c < columns) constants

-- no number that is listed has the bits of this number from a place on
abbrev pub IsDead : (ℕ → Type 0) → ℕ → ℕ → Type 0
IsDead Listed number place = (b : ℕ) → b / 2 ^ place ≡ number / 2 ^ place → Listed b → ⊥

-- what a vector has in these columns, all together
abbrev pub share : List ℕ → List ℕ → ℕ
share columns v = sum_by (λ c. slice_index v c) columns

-- what a vector can give to a column: nothing where it has two constants, or one twice
abbrev pub useful_part : List ℕ → ℕ → List ℕ → ℕ
useful_part constants j v = if nat_lt 1 (share constants v) then 0 else slice_index v j

-- what these solutions can give to a column, all together
abbrev pub useful_sum : List ℕ → ℕ → List Solution → ℕ
useful_sum constants j list = sum_by (λ v. useful_part constants j v.parts) list

-- a column in which this vector is above zero, or that it does not have
abbrev pub IsChanged : List ℕ → ℕ → Type 0
IsChanged changed j = 0 < slice_index_or changed j 1

-- a column, if it is one of these, is above zero with its sum and the lower solutions that may be taken together
abbrev pub CanBeFilled : List ℕ → List ℕ → List Solution → List ℕ → ℕ → Type 0
CanBeFilled changed constants lower sums j = IsChanged changed j → 0 < slice_index sums j + useful_sum constants j lower

-- a column has at most 1, and has or can get it
abbrev pub CanBeOne : List ℕ → List ℕ → List Solution → List ℕ → ℕ → Type 0
CanBeOne changed constants lower sums c = (slice_index sums c ≤ 1) × CanBeFilled changed constants lower sums c

-- with these column sums and any of the lower solutions the bounds can still be kept
pub record AreBoundsOpen (bounds : ColumnBounds) (changed constants : List ℕ) (lower : List Solution) (sums : List ℕ) : Type 0 where
  pub most : All (λ j. slice_index sums j ≤ 1) bounds.at_most_one
  pub least : All (CanBeFilled changed constants lower sums) bounds.at_least_one

-- full choices alone are listed, with some other columns, and the vector is zero in all constant columns and in these
abbrev pub IsAsked : Option (List ℕ) → List ℕ → List ℕ → Type 0
IsAsked None constants v = ⊥
IsAsked (Some others) constants v = (touched constants v ≡ 0) × (touched others v ≡ 0)

-- and every column can still get what is asked
pub record IsOpen (changed constants : List ℕ) (may_be_zero : List Bool) (bounds : ColumnBounds) (lower : List Solution) (sums : List ℕ) : Type 0 where
  pub filled : (j : ℕ) → slice_index_or may_be_zero j true ≡ false → CanBeFilled changed constants lower sums j
  pub once : All (CanBeOne changed constants lower sums) constants
  pub bounded : AreBoundsOpen bounds changed constants lower sums
