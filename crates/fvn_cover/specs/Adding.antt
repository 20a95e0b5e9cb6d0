-- Lists of variants with one more, without those that it covers.
use Rattle.std.specs.Prelude.{◌≡◌, ◌⊎◌, List, [], ◌∷◌, ◌++◌}
use Rattle.fvn_terms.specs.declared.declarations.Declarations.{Declarations}
use Rattle.fvn_cover.specs.declared.variant.Variant.{Variant}
use Rattle.fvn_cover.specs.Covering.{CoversVariant}
use Rattle.fvn_cover.specs.Pruning.{IsCoveredBySome}

-- what is left are the members of which P does not hold
abbrev pub IsLeft : {A : Type 0} → (A → Type 0) → List A → List A → Type 0
IsLeft P [] left = left ≡ []
IsLeft {A} P (x ∷ xs) left = (P x × IsLeft P xs left) ⊎ ((P x → ⊥) × ((rest : List A) × (left ≡ x ∷ rest) × IsLeft P xs rest))

-- v is not added to a list of which some member covers it; else it drives out those that it covers
abbrev pub IsAdded : Declarations → List Variant → Variant → List Variant → Type 0
IsAdded d kept v after =
    (IsCoveredBySome d kept v × (after ≡ kept))
    ⊎ ((IsCoveredBySome d kept v → ⊥) × ((left : List Variant) × IsLeft (CoversVariant d v) kept left × (after ≡ left ++ v ∷ [])))
