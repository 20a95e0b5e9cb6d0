-- Orders of bindings.
use Rattle.std.specs.Prelude.{◌≡◌, ◌↔◌, ◌⊎◌, ℕ, ◌<◌, List, [], ◌∷◌, slice_get, Some, All, Contains}
use Rattle.fvn_terms.specs.declared.plain.Var.{Var}
use Rattle.fvn_terms.specs.Substitution.{Occurs}
use Rattle.fvn_forms.specs.Flat.{FlatTerm, plain}
use Rattle.fvn_flat.specs.Bindings.{Bindings}
use Rattle.fvn_flat.specs.SolvedLists.{IsTriangular}

-- x occurs in no form of the list
abbrev pub OccursNowhere : Bindings → Var → Type 0
OccursNowhere bindings x = All (λ c. Occurs x (plain c.1) → ⊥) bindings

-- the variable that is bound at this place occurs in no form of the list
abbrev pub IsSourceAt : Bindings → ℕ → Type 0
IsSourceAt bindings i = (b : Var × FlatTerm) × (slice_get bindings i ≡ Some b) × OccursNowhere bindings b.0

-- there is no such place
abbrev pub HasNoSource : Bindings → Type 0
HasNoSource bindings = (i : ℕ) → IsSourceAt bindings i → ⊥

-- no rank of variables falls along the bindings
abbrev pub HasNoOrder : Bindings → Type 0
HasNoOrder bindings =
    (rank : Var → ℕ)
    → ((b c : Var × FlatTerm) → Contains bindings b → Contains bindings c → Occurs b.0 (plain c.1) → rank b.0 < rank c.0) → ⊥

-- the bindings in an order in which no variable that was replaced comes again
abbrev pub IsOrderOf : Bindings → Bindings → Type 0
IsOrderOf bindings placed = IsTriangular placed × ((b : Var × FlatTerm) → Contains placed b ↔ Contains bindings b)

-- the list with those added of which this holds
abbrev pub HasListed : List Var → List Var → (Var → Type 0) → Type 0
HasListed before now P = (y : Var) → Contains now y ↔ (Contains before y ⊎ P y)

-- the variables of the form
abbrev pub AreVarsOf : FlatTerm → List Var → Type 0
AreVarsOf t vars = (y : Var) → Contains vars y ↔ Occurs y (plain t)

-- for each binding the variables of its form
abbrev pub AreNotes : Bindings → List (List Var) → Type 0
AreNotes [] [] = Unit
AreNotes [] (w ∷ ws) = ⊥
AreNotes (b ∷ bindings) [] = ⊥
AreNotes (b ∷ bindings) (w ∷ ws) = AreVarsOf b.1 w × AreNotes bindings ws
