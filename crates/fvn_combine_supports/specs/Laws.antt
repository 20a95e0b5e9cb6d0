-- Laws of supports.
use Rattle.std.specs.Prelude.{◌≡◌, ℕ, ◌<◌, ℤ, Bool, List, length, replicate, slice_index, All, Contains}
use Rattle.fvn_forms.specs.Flat.{FlatTerm}
use Rattle.fvn_lindio.specs.Vectors.{IsAtOrBelow}
use Rattle.fvn_lindio.specs.Systems.{Solves, IsMinimal}
use Rattle.fvn_lindio.specs.Laws.{combination}
use Rattle.fvn_acunify.specs.ValidChoice.{chosen, IsValid}
use Rattle.fvn_combine_supports.specs.Pieces.{number_of, taken, some_of, AreMadeUp, Meets, StandAlone}

-- where what is counted of each flat form solves a system, and nothing is counted but of listed ones, it is made up of pieces for minimal solutions:
-- those at or below what is counted are enough
abbrev pub CountsAreMadeUp : Type 0
CountsAreMadeUp =
    (columns : ℕ) (rows : List (List ℤ)) (basis : List (List ℕ)) → ((v : List ℕ) → Contains basis v → IsMinimal columns rows v)
    → (counted : FlatTerm → List ℕ) → ((q : FlatTerm) → Solves columns rows (counted q))
    → ((q : FlatTerm) (v : List ℕ) → IsMinimal columns rows v → IsAtOrBelow v (counted q) → Contains basis v)
    → (listed : List FlatTerm) → ((q : FlatTerm) → (Contains listed q → ⊥) → counted q ≡ replicate columns 0)
    → (pieces : List (List FlatTerm)) × AreMadeUp columns basis counted pieces

-- where it meets what is asked, the vectors that have pieces are a valid choice, and each with a constant column has one piece
abbrev pub PiecesChoose : Type 0
PiecesChoose =
    (columns : ℕ) (basis : List (List ℕ)) → All (λ v. length v ≡ columns) basis
    → (counted : FlatTerm → List ℕ) (pieces : List (List FlatTerm)) → AreMadeUp columns basis counted pieces
    → (constants : List ℕ) (may_be_zero : List Bool) (alone : ℕ → FlatTerm) → Meets constants may_be_zero basis counted alone
    → IsValid constants may_be_zero basis (number_of pieces) × StandAlone constants basis pieces alone

-- the vectors that have pieces are those that their number chooses, and make up the counts alone
abbrev pub MadeUpByTaken : Type 0
MadeUpByTaken =
    (columns : ℕ) (basis : List (List ℕ)) → All (λ v. length v ≡ columns) basis
    → (counted : FlatTerm → List ℕ) (pieces : List (List FlatTerm)) → AreMadeUp columns basis counted pieces
    → (chosen (number_of pieces) basis ≡ taken pieces basis) × AreMadeUp columns (taken pieces basis) counted (some_of pieces)

-- solutions, each so many times, are together a solution
abbrev pub CombinationsSolve : Type 0
CombinationsSolve =
    (columns : ℕ) (rows : List (List ℤ)) (times : List ℕ) (list : List (List ℕ)) → All (Solves columns rows) list → Solves columns rows (combination columns times list)

-- at or below a solution that has a column stands a minimal one that has it
abbrev pub MinimalHasColumn : Type 0
MinimalHasColumn =
    (columns : ℕ) (rows : List (List ℤ)) (x : List ℕ) → Solves columns rows x → (j : ℕ) → 0 < slice_index x j
    → (v : List ℕ) × IsMinimal columns rows v × IsAtOrBelow v x × (0 < slice_index v j)
