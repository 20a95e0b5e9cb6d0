-- Laws of signatures.
use Rattle.std.specs.Prelude.{◌↔◌, ◌<◌, Contains}
use Rattle.fvn_terms.specs.declared.plain.SortId.{SortId}
use Rattle.fvn_terms.specs.declared.declarations.Declarations.{Declarations}
use Rattle.fvn_terms.specs.Signature.{AtOrBelow}
use Rattle.fvn_forms.specs.Good.{IsGood}
use Rattle.fvn_signature.specs.Queries.{IsKind, IsMaximalOf, IsBelow, IsDirectSubsort, direct_subsorts, IsCompleted}

-- the list of the direct subsorts of a sort has these and no others
abbrev pub DirectSubsortsAreListed : Type 0
DirectSubsortsAreListed = (d : Declarations) (s t : SortId) → Contains (direct_subsorts d s) t ↔ IsDirectSubsort d s t

-- in a good signature a declared sort is below another one exactly where it is at or below one of the direct subsorts of that
abbrev pub DirectSubsortsCover : Type 0
DirectSubsortsCover = (d : Declarations) → IsGood d → (s t : SortId) → t.0 < d.sorts →
    IsBelow d t s ↔ ((u : SortId) × (Contains (direct_subsorts d s) u × AtOrBelow d t u))

-- in a good and completed signature the direct subsorts of a kind are its maximal sorts
abbrev pub DirectSubsortsOfKinds : Type 0
DirectSubsortsOfKinds = (d : Declarations) → IsGood d → IsCompleted d → (k s : SortId) → IsKind d k →
    Contains (direct_subsorts d k) s ↔ IsMaximalOf d k s
