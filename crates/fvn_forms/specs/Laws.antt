-- Laws of flat forms.
use Rattle.std.specs.Prelude.{◌≡◌, ◌↔◌}
use Rattle.fvn_base.specs.Decided.{Decided}
use Rattle.fvn_terms.specs.declared.declarations.Declarations.{Declarations}
use Rattle.fvn_terms.specs.declared.plain.Var.{Var}
use Rattle.fvn_terms.specs.declared.plain.SortId.{SortId}
use Rattle.fvn_terms.specs.Term.{Term}
use Rattle.fvn_terms.specs.Signature.{AtOrBelow, IsTerm}
use Rattle.fvn_terms.specs.Equality.{BEqual}
use Rattle.fvn_terms.specs.Sorts.{HasSort}
use Rattle.fvn_forms.specs.Flat.{FlatTerm, plain}
use Rattle.fvn_forms.specs.Canon.{canon, inst}
use Rattle.fvn_forms.specs.Settled.{Settled, FlatIn}
use Rattle.fvn_forms.specs.FitsKinds.{FitsKinds}
use Rattle.fvn_forms.specs.Good.{IsGood}
use Rattle.fvn_forms.specs.LeastSort.{sort_in, least_sort, KeepsKindsOfVariables, IsFlatSubstitution}

-- two flat forms are equal or not
abbrev pub FlatFormsAreCompared : Type 0
FlatFormsAreCompared = (t u : FlatTerm) → Decided (t ≡ u)

-- a form is settled exactly where it is the flat form of its plain term
abbrev pub SettledIsFlat : Type 0
SettledIsFlat = (d : Declarations) (t : FlatTerm) → Settled d t ↔ FlatIn d t

-- well-kinded terms are equal modulo the axioms exactly where their flat forms are equal
abbrev pub EqualityIsThatOfFlatForms : Type 0
EqualityIsThatOfFlatForms = (d : Declarations) → FitsKinds d → (t u : Term) → IsTerm d t → IsTerm d u → BEqual d t u ↔ (canon d t ≡ canon d u)

-- the sorts of a well-kinded term are the least sort of its flat form and those above it
abbrev pub LeastSortIsExact : Type 0
LeastSortIsExact = (d : Declarations) → IsGood d → (t : Term) → IsTerm d t → (s : SortId) → HasSort d t s ↔ AtOrBelow d (least_sort d (canon d t)) s

-- a well-kinded form with flat forms for its variables has the least sort that it has over their least sorts, or one below that
abbrev pub InstancesHaveLowerSorts : Type 0
InstancesHaveLowerSorts = (d : Declarations) → IsGood d → (env : Var → SortId) → KeepsKindsOfVariables d env →
    (s : Var → FlatTerm) → IsFlatSubstitution d s →
    (t : FlatTerm) → Settled d t → IsTerm d (plain t) → AtOrBelow d (sort_in d env (inst d s t)) (sort_in d (λ x. sort_in d env (s x)) t)
