-- Laws of peaks: what joins, and confluence.
-- M. H. A. Newman, On theories with a combinatorial definition of equivalence, 1942.
use Rattle.std.specs.Prelude.{ℕ}
use Rattle.fvn_terms.specs.declared.plain.Var.{Var}
use Rattle.fvn_terms.specs.declared.declarations.Declarations.{Declarations}
use Rattle.fvn_terms.specs.Term.{Term}
use Rattle.fvn_terms.specs.Substitution.{Substitution, apply}
use Rattle.fvn_terms.specs.Places.{AtOnePlace}
use Rattle.fvn_terms.specs.Theory.{Equations}
use Rattle.fvn_terms.specs.Rewriting.{TermSequence, AreJoinable, IsTerminating, IsConfluent}
use Rattle.fvn_forms.specs.Flat.{FlatTerm}
use Rattle.fvn_forms.specs.FitsKinds.{FitsKinds}
use Rattle.fvn_forms.specs.Good.{IsGood}
use Rattle.fvn_signature.specs.Queries.{IsCompleted}
use Rattle.fvn_flat.specs.FlatPlaces.{IsReplaced}
use Rattle.fvn_rewrite_laws.specs.Kinds.{HaveOneKind}
use Rattle.fvn_rewrite_laws.specs.Losses.{AreSortDecreasing}
use Rattle.fvn_rewrite_laws.specs.Admissible.{AreAdmissible}
use Rattle.fvn_rewrite_peaks.specs.Peaks.{AreTwoPlaces, StepsJoin, OverlapsJoin, StandInsJoin}

-- two places of one form are apart, or one stands within the other
abbrev pub PlacesAreApartOrNested : Type 0
PlacesAreApartOrNested =
    (a g b h t u v : FlatTerm) → IsReplaced a g t u → IsReplaced b h t v → AreTwoPlaces a g b h u v

-- terms that are joinable at one place are joinable
abbrev pub JoinsAreKeptInside : Type 0
JoinsAreKeptInside =
    (d : Declarations) (equations : Equations) (t u : Term) → AtOnePlace (AreJoinable d equations) t u →
    AreJoinable d equations t u

-- some sequence leads from each value of the first substitution to that of the second
abbrev pub ValuesLeadOn : Declarations → Equations → Substitution → Substitution → Type 0
ValuesLeadOn d equations s c = (x : Var) → (k : ℕ) × TermSequence d equations k (s x) (c x)

-- then some sequence leads from each instance by the first to that by the second
abbrev pub ValuesCarryInstances : Type 0
ValuesCarryInstances =
    (d : Declarations) (equations : Equations) (s c : Substitution) → ValuesLeadOn d equations s c →
    (t : Term) → (k : ℕ) × TermSequence d equations k (apply s t) (apply c t)

-- where overlaps of the rules of admissible sort-decreasing equations join, any two steps from one term do
abbrev pub OverlapsDecideSteps : Type 0
OverlapsDecideSteps =
    (d : Declarations) → IsGood d → IsCompleted d → (equations : Equations) → AreAdmissible d equations →
    AreSortDecreasing d equations → OverlapsJoin d equations → StepsJoin d equations

-- the same where they join of forms that stand for the rules
abbrev pub StandInsDecideSteps : Type 0
StandInsDecideSteps =
    (d : Declarations) → IsGood d → IsCompleted d → (equations : Equations) → AreAdmissible d equations →
    AreSortDecreasing d equations → StandInsJoin d equations → StepsJoin d equations

-- overlaps join where equations with sides of one kind are confluent
abbrev pub ConfluentEquationsJoinOverlaps : Type 0
ConfluentEquationsJoinOverlaps = (d : Declarations) → IsGood d → IsCompleted d → (equations : Equations) →
    HaveOneKind d equations → IsConfluent d equations → OverlapsJoin d equations

-- where any two steps from one term join, equations that terminate are confluent
abbrev pub TerminationAndJoinsGiveConfluence : Type 0
TerminationAndJoinsGiveConfluence =
    (d : Declarations) → FitsKinds d → (equations : Equations) → HaveOneKind d equations →
    IsTerminating d equations → StepsJoin d equations → IsConfluent d equations
