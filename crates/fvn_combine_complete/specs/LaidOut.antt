-- Pieces that are laid out: the summands of the value of a column or a class.
use Rattle.std.specs.Prelude.{ℕ, zero, suc, List, [], ◌∷◌, ◌++◌, slice_index}
use Rattle.fvn_forms.specs.Flat.{FlatTerm}
use Rattle.fvn_flat.specs.SolvedLists.{component}

-- the list, so many times
abbrev pub copies : ℕ → List FlatTerm → List FlatTerm
copies zero z = []
copies (suc n) z = z ++ copies n z

-- for each vector its pieces, as often as it has column j
abbrev pub laid_out : ℕ → List (List FlatTerm) → List (List ℕ) → List FlatTerm
laid_out j [] basis = []
laid_out j (z ∷ zs) [] = []
laid_out j (z ∷ zs) (v ∷ basis) = copies (slice_index v j) z ++ laid_out j zs basis

-- for each solution its pieces, as often as the solution has class k
abbrev pub laid_for : List ℕ → ℕ → List (List ℕ) → List (List FlatTerm) → List FlatTerm
laid_for columns k [] pieces = []
laid_for columns k (v ∷ solutions) [] = []
laid_for columns k (v ∷ solutions) (z ∷ pieces) = copies (component columns v k) z ++ laid_for columns k solutions pieces
