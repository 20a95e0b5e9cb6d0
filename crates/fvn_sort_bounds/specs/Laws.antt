-- Laws of sorts and summands.
use Rattle.std.specs.Prelude.{◌≢◌, ◌≤◌, true, [], length}
use Rattle.fvn_terms.specs.declared.plain.OpId.{OpId}
use Rattle.fvn_terms.specs.declared.plain.SortId.{SortId}
use Rattle.fvn_terms.specs.declared.declarations.Declarations.{Declarations}
use Rattle.fvn_terms.specs.Term.{Term}
use Rattle.fvn_terms.specs.Signature.{axioms, IsTerm}
use Rattle.fvn_terms.specs.Equality.{IsAssociative}
use Rattle.fvn_terms.specs.Sorts.{HasSort}
use Rattle.fvn_forms.specs.Flat.{FlatTerms, fapp}
use Rattle.fvn_forms.specs.Canon.{parts, canon}
use Rattle.fvn_forms.specs.Good.{IsGood}
use Rattle.fvn_sort_bounds.specs.Admitting.{AdmitsSum, AdmitsIdentity}

-- a term of a sort that admits no sum by f has at most one summand under f
abbrev pub NarrowSortsHaveOneSummand : Type 0
NarrowSortsHaveOneSummand =
    (d : Declarations) → IsGood d → (f : OpId) → IsAssociative (axioms d f) → (s : SortId) → (AdmitsSum d f s → ⊥)
    → (t : Term) → IsTerm d t → HasSort d t s → length (parts d f (canon d t)) ≤ 1

-- so its flat form is no sum of f
abbrev pub NarrowSortsHaveNoSum : Type 0
NarrowSortsHaveNoSum =
    (d : Declarations) → IsGood d → (f : OpId) (s : SortId) → (AdmitsSum d f s → ⊥)
    → (t : Term) → IsTerm d t → HasSort d t s → (ts : FlatTerms) → canon d t ≢ fapp f true ts

-- a term of a sort that does not admit the identity of f has some summand under f
abbrev pub OtherSortsHaveSomeSummand : Type 0
OtherSortsHaveSomeSummand =
    (d : Declarations) → IsGood d → (f : OpId) (s : SortId) → (AdmitsIdentity d f s → ⊥)
    → (t : Term) → IsTerm d t → HasSort d t s → parts d f (canon d t) ≢ []
