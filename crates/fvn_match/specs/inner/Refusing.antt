-- Sums that no candidate makes, as counting tells.
use Rattle.std.specs.Prelude.{◌≡◌, ◌≤◌, ◌<◌, ℕ, ◌+◌, ◌*◌, Bool, if◌then◌else◌, List, [], ◌∷◌, length, map, Contains}
use Rattle.std.specs.List.{AllByRecursion}
use Rattle.fvn_terms.specs.declared.plain.OpId.{OpId}
use Rattle.fvn_terms.specs.declared.plain.SortId.{SortId}
use Rattle.fvn_terms.specs.declared.declarations.Rank.{Rank}
use Rattle.fvn_terms.specs.declared.declarations.Declarations.{Declarations}
use Rattle.fvn_terms.specs.Signature.{kind, declared, axioms, AtOrBelow}
use Rattle.fvn_terms.specs.Equality.{IsAssociative}
use Rattle.fvn_forms.specs.Flat.{FlatTerm}
use Rattle.fvn_forms.specs.InOrder.{count}
use Rattle.fvn_forms.specs.Canon.{all_parts, inst}
use Rattle.fvn_forms.specs.SortOrder.{at_or_below}
use Rattle.fvn_forms.specs.Ranks.{ranks_of}
use Rattle.fvn_forms.specs.LeastSort.{least_sort}
use Rattle.fvn_flat.specs.Bindings.{Bindings}
use Rattle.fvn_match.specs.inner.Candidates.{Values, IsCandidate, Agrees}
use Rattle.fvn_match.specs.inner.Goals.{patterns_of, SumHolds, IsFlatOf}
use Rattle.fvn_match.specs.declared.goals.SumGoal.{SumGoal}

-- n is k times some number
abbrev pub IsMultiple : ℕ → ℕ → Type 0
IsMultiple k n = (m : ℕ) × (n ≡ k * m)

-- among the summands of the patterns, whatever their variables are, each form stands so many times k times
abbrev pub AreMultiples : ℕ → List FlatTerm → Type 0
AreMultiples k ps =
    (d : Declarations) (f : OpId) (c : Values) (q : FlatTerm) →
    IsMultiple k (count q (all_parts d f (map (inst d c) ps)))

-- all that the patterns take they take so many times, and of some piece not so many times some number are left
pub record IsUneven (goal : SumGoal) : Type 0 where
  pub times : ℕ
  pub patterns : AreMultiples times (patterns_of goal)
  pub left : AllByRecursion (IsMultiple times) goal.left.now → ⊥

-- more than n patterns of which k copies have their summands among those of all patterns, whatever the variables are
pub record HaveCopies (k n : ℕ) (ps : List FlatTerm) : Type 0 where
  pub some : List FlatTerm
  pub more : n < length some
  pub among :
      (d : Declarations) (f : OpId) (c : Values) (q : FlatTerm) →
      k * count q (all_parts d f (map (inst d c) some)) ≤ count q (all_parts d f (map (inst d c) ps))

module _ (d : Declarations) where
  -- no candidate does what the sum asks
  abbrev pub IsHopeless : SumGoal → Type 0
  IsHopeless goal = (c : Values) → IsCandidate d c → SumHolds d goal c → ⊥

  -- no candidate with the values that were bound makes the form of the pattern
  abbrev pub NeverMakes : Bindings → FlatTerm → FlatTerm → Type 0
  NeverMakes b p t = (c : Values) → IsCandidate d c → Agrees b c → inst d c p ≡ t → ⊥

  -- a flat form of the kind of an associative operator
  pub record IsSummand (f : OpId) (p : FlatTerm) : Type 0 where
    pub associative : IsAssociative (axioms d f)
    pub rank : Rank
    pub listed : Contains (declared d f).ranks rank
    pub flat : IsFlatOf d (kind d rank.result) p

  -- no rank of f gives the sort or one below it
  abbrev pub GivesNone : OpId → SortId → Type 0
  GivesNone f s = (r : Rank) → Contains (ranks_of d f) r → AtOrBelow d r.result s → ⊥

  -- the rank takes an argument of the sort
  abbrev pub TakesLow : SortId → Rank → Type 0
  TakesLow s r = (q : SortId) × (Contains r.args q × AtOrBelow d q s)

  -- each rank of f that gives the sort or one below it takes an argument of the sort
  abbrev pub KeepsLow : OpId → SortId → Type 0
  KeepsLow f s = (r : Rank) → Contains (ranks_of d f) r → AtOrBelow d r.result s → TakesLow s r

  -- whether the form has the sort
  abbrev pub is_low : SortId → FlatTerm → Bool
  is_low s t = at_or_below d (least_sort d t) s

  -- how many of the forms have the sort
  abbrev pub low_in : SortId → List FlatTerm → ℕ
  low_in s [] = 0
  low_in s (t ∷ ts) = (if is_low s t then 1 else 0) + low_in s ts

  -- how many of the pieces have the sort, each as often as its number says
  abbrev pub low_left : SortId → List FlatTerm → List ℕ → ℕ
  low_left s [] ns = 0
  low_left s (t ∷ ts) [] = 0
  low_left s (t ∷ ts) (n ∷ ns) = (if is_low s t then n else 0) + low_left s ts ns
