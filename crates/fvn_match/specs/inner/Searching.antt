-- What each step of a search finds.
use Rattle.std.specs.Prelude.{◌≡◌, ◌⊎◌, ◌≤◌, ◌<◌, ℕ, List, [], ◌∷◌, length, sum as std_sum, Option, Some, None}
use Rattle.std.specs.List.{AllZip}
use Rattle.fvn_terms.specs.declared.plain.OpId.{OpId}
use Rattle.fvn_terms.specs.declared.declarations.Declarations.{Declarations}
use Rattle.fvn_terms.specs.Signature.{axioms}
use Rattle.fvn_forms.specs.Flat.{FlatTerm}
use Rattle.fvn_forms.specs.Canon.{parts, sum, inst}
use Rattle.fvn_terms.specs.Equality.{identity}
use Rattle.fvn_flat.specs.Bindings.{Bindings, value}
use Rattle.fvn_match.specs.inner.Choices.{IsWithin}
use Rattle.fvn_match.specs.inner.Tallies.{repeated}
use Rattle.fvn_match.specs.inner.Summands.{IsRun}
use Rattle.fvn_match.specs.inner.Candidates.{Values, IsCandidate, IsSolution, Finds}
use Rattle.fvn_match.specs.inner.Goals.{bindings_of, patterns_of, pieces_of, AllMake, SumHolds, SumsHold, Asked, ChoiceAsked, IsPair, SumFits, SumsFit}
use Rattle.fvn_match.specs.declared.goals.Goals.{Goals}
use Rattle.fvn_match.specs.declared.goals.SumGoal.{SumGoal}
use Rattle.fvn_match.specs.declared.goals.Bound.{Bound}
use Rattle.fvn_match.specs.declared.search.Search.{Search}

-- the values of a candidate that agrees with those so far and does what is asked, or that there is none
abbrev pub Searches : Search → Bound → (Values → Type 0) → Option Bindings → Type 0
Searches s bound P = Finds s.vars.now (IsSolution s.sig.now (bindings_of bound) P)

-- goals, and then sums
abbrev pub SearchesGoals : Search → Goals → List SumGoal → Bound → Option Bindings → Type 0
SearchesGoals s goals sums bound = Searches s bound (Asked s.sig.now goals sums)

-- a pair, and then goals and sums
abbrev pub SearchesPair : Search → FlatTerm → FlatTerm → Goals → List SumGoal → Bound → Option Bindings → Type 0
SearchesPair s p t rest sums bound = Searches s bound (λ c. (inst s.sig.now c p ≡ t) × Asked s.sig.now rest sums c)

-- pairs place by place, and then goals and sums
abbrev pub SearchesLists : Search → List FlatTerm → List FlatTerm → Goals → List SumGoal → Bound → Option Bindings → Type 0
SearchesLists s ps ts rest sums bound = Searches s bound (λ c. AllMake s.sig.now ps ts c × Asked s.sig.now rest sums c)

-- two targets in the other order
abbrev pub crossed : List FlatTerm → List FlatTerm
crossed [] = []
crossed (t ∷ []) = t ∷ []
crossed (t ∷ u ∷ us) = u ∷ t ∷ us

-- two pairs, place by place or crosswise, and then goals and sums
abbrev pub SearchesEither : Search → List FlatTerm → List FlatTerm → Goals → List SumGoal → Bound → Option Bindings → Type 0
SearchesEither s ps ts rest sums bound = Searches s bound (λ c. (AllMake s.sig.now ps ts c ⊎ AllMake s.sig.now ps (crossed ts) c) × Asked s.sig.now rest sums c)

-- a sum, and then sums
abbrev pub SearchesSum : Search → SumGoal → List SumGoal → Bound → Option Bindings → Type 0
SearchesSum s goal sums bound = Searches s bound (λ c. SumHolds s.sig.now goal c × SumsHold s.sig.now sums c)

-- k copies of a pattern for one choice of pieces, and then what is left of the sum, and sums
abbrev pub SearchesChoice : Search → SumGoal → FlatTerm → ℕ → List ℕ → List SumGoal → Bound → Option Bindings → Type 0
SearchesChoice s goal p k chosen sums bound = Searches s bound (ChoiceAsked s.sig.now goal p k chosen sums)

-- the same for some choice within limits and room
abbrev pub SearchesChoices : Search → SumGoal → FlatTerm → ℕ → List ℕ → ℕ → List SumGoal → Bound → Option Bindings → Type 0
SearchesChoices s goal p k limits room sums bound = Searches s bound (λ c. (js : List ℕ) × IsWithin room limits js × ChoiceAsked s.sig.now goal p k js sums c)

module _ (d : Declarations) where
  -- each pattern is of the kind of each target
  pub record IsCrossing (ps ts : List FlatTerm) : Type 0 where
    pub straight : AllZip (IsPair d) ps ts
    pub across : AllZip (IsPair d) ps (crossed ts)

  -- a sum, sums and values so far that go together
  pub record SumStateFits (goal : SumGoal) (sums : List SumGoal) (bound : Bound) : Type 0 where
    pub sum_fits : SumFits d goal
    pub sums_fit : SumsFit d sums
    pub values : IsCandidate d (value (bindings_of bound))

  -- the first pattern of a sum stands there so often at the front
  pub record IsGroup (goal : SumGoal) (p : FlatTerm) (k : ℕ) : Type 0 where
    pub others : List FlatTerm
    pub first : patterns_of goal ≡ p ∷ others
    pub run : IsRun (patterns_of goal) k

  -- an instance of the pattern has at most one summand
  abbrev pub IsOnePiece : OpId → FlatTerm → Type 0
  IsOnePiece f p = (c : Values) → IsCandidate d c → length (parts d f (inst d c p)) ≤ 1

  -- in no way has an instance of the pattern more summands than this
  abbrev pub IsRoom : SumGoal → FlatTerm → ℕ → Type 0
  IsRoom goal p room = (c : Values) → IsCandidate d c → SumHolds d goal c → length (parts d goal.op (inst d c p)) ≤ room

  -- the sum of nothing; none where there is no identity
  abbrev pub IsEmptySum : OpId → Option FlatTerm → Type 0
  IsEmptySum f None = identity (axioms d f) ≡ None
  IsEmptySum f (Some t) = (t ≡ sum d f []) × (identity (axioms d f) ≡ None → ⊥)

  -- the sum of the chosen pieces; none where there is no such sum
  abbrev pub IsWhole : SumGoal → List ℕ → Option FlatTerm → Type 0
  IsWhole goal chosen None = (std_sum chosen ≡ 0) × (identity (axioms d goal.op) ≡ None)
  IsWhole goal chosen (Some t) = (t ≡ sum d goal.op (repeated (pieces_of goal) chosen)) × (identity (axioms d goal.op) ≡ None → 1 ≤ std_sum chosen)

  -- the operator has no identity, and there are fewer pieces than patterns
  abbrev pub IsShort : SumGoal → Type 0
  IsShort goal = (identity (axioms d goal.op) ≡ None) × (std_sum goal.left.now < length (patterns_of goal))
