-- Linear systems and their minimal solutions.
-- G. Huet, An algorithm to generate the basis of solutions to homogeneous linear Diophantine equations, 1978.
-- E. Contejean and H. Devie, An efficient incremental algorithm for solving systems of linear Diophantine equations, 1994.
use Rattle.std.specs.Prelude.{◌≡◌, ℕ, suc, ◌+◌, ◌*◌, ◌≤◌, ℤ, pos, negsuc, unsigned_abs, List, [], ◌∷◌, length, map, slice_index, slice_index_or, All}
use Rattle.fvn_base.specs.declared.limits.TheConstants.{COLUMNS, COMPONENT}
use Rattle.fvn_lindio.specs.Vectors.{IsAtOrBelow, IsNonZero}
use Rattle.fvn_lindio.specs.declared.system.System.{System}
use Rattle.fvn_lindio.specs.declared.system.Row.{Row}
use Rattle.fvn_lindio.specs.declared.system.Solution.{Solution}

-- how far a number is above zero
abbrev pub above : ℤ → ℕ
above (pos n) = n
above (negsuc n) = 0

-- how far a number is below zero
abbrev pub below : ℤ → ℕ
below (pos n) = 0
below (negsuc n) = suc n

-- what the coefficients above zero give at a vector
abbrev pub up : List ℤ → List ℕ → ℕ
up [] x = 0
up (c ∷ row) [] = 0
up (c ∷ row) (a ∷ x) = above c * a + up row x

-- what the coefficients below zero take at a vector
abbrev pub down : List ℤ → List ℕ → ℕ
down [] x = 0
down (c ∷ row) [] = 0
down (c ∷ row) (a ∷ x) = below c * a + down row x

-- the sum of coefficient times component is zero
abbrev pub IsZeroAt : List ℕ → List ℤ → Type 0
IsZeroAt x row = up row x ≡ down row x

-- no row has a coefficient other than zero in column j
abbrev pub IsUnused : List (List ℤ) → ℕ → Type 0
IsUnused rows j = All (λ row. slice_index_or row j (pos 0) ≡ pos 0) rows

-- x is a vector of so many columns at which each row is zero, and is itself zero on unused columns
pub record Solves (columns : ℕ) (rows : List (List ℤ)) (x : List ℕ) : Type 0 where
  pub sized : length x ≡ columns
  pub zero_rows : All (IsZeroAt x) rows
  pub unused : (j : ℕ) → IsUnused rows j → slice_index x j ≡ 0

-- a solution other than zero, with no other such solution at or below it
pub record IsMinimal (columns : ℕ) (rows : List (List ℤ)) (x : List ℕ) : Type 0 where
  pub solves : Solves columns rows x
  pub nonzero : IsNonZero x
  pub least : (y : List ℕ) → Solves columns rows y → IsNonZero y → IsAtOrBelow y x → y ≡ x

-- the rows as lists of coefficients
abbrev pub coefficients_of : List Row → List (List ℤ)
coefficients_of rows = map (λ row. row.coefficients) rows

-- the rows of a system as lists of coefficients
abbrev pub rows_of : System → List (List ℤ)
rows_of s = coefficients_of s.rows

-- the solutions as vectors
abbrev pub vectors_of : List Solution → List (List ℕ)
vectors_of list = map (λ v. v.parts) list

-- what a system keeps to: so many columns, and coefficients of at most this size
pub record IsSystem (s : System) : Type 0 where
  pub columns : s.columns ≤ COLUMNS
  pub sized : All (λ row. length row ≡ s.columns) (rows_of s)
  pub bounded : All (All (λ c. unsigned_abs c ≤ COMPONENT)) (rows_of s)
