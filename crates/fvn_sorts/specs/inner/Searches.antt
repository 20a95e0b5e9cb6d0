-- What the searches for the first sorts that break a condition find.
use Rattle.std.specs.Prelude.{◌≡◌, ◌≤◌, ◌<◌, ℕ, Bool, Option, MatchOption, false, cond, List, [], ◌∷◌, ◌++◌, map, is_some, find}
use Rattle.fvn_terms.specs.declared.plain.OpId.{OpId}
use Rattle.fvn_terms.specs.declared.plain.SortId.{SortId}
use Rattle.fvn_terms.specs.declared.declarations.Rank.{Rank}
use Rattle.fvn_terms.specs.declared.declarations.Declarations.{Declarations}
use Rattle.fvn_terms.specs.Signature.{kind, declared}
use Rattle.fvn_forms.specs.SortOrder.{at_or_below}
use Rattle.fvn_forms.specs.Ranks.{results, is_lowest, result}
use Rattle.fvn_forms.specs.FitsKinds.{HaveOneKind}
use Rattle.fvn_forms.specs.Good.{Associates, Collapses}
use Rattle.fvn_signature_draft.specs.declared.collected.Collected.{Collected}
use Rattle.fvn_sorts.specs.declared.conditions.shapes.Condition.{Condition}
use Rattle.fvn_sorts.specs.declared.conditions.shapes.Condition.TheVariants.{Kinds, Shape, Same, Identity}
use Rattle.fvn_sorts.specs.declared.conditions.fault.SigFault.{SigFault}
use Rattle.fvn_sorts.specs.declared.conditions.fault.SigFault.TheVariants.{KindsDiffer, AxiomShape, AxiomsDiffer, IdentityBad}
use Rattle.fvn_sorts.specs.declared.conditions.brackets.Triple.{Triple}
use Rattle.fvn_signature_draft.specs.Collected.{completed}
use Rattle.fvn_sorts.specs.Faults.{Differ, HasFault, condition, sort_numbers, IsEarlier}
use Rattle.fvn_base.specs.Order.{IsBefore}

-- the first fault among those of the conditions from n up to m
abbrev pub IsFirstFrom : Collected → ℕ → ℕ → Option SigFault → Type 0
IsFirstFrom c n m r =
    MatchOption r
    ((j : SigFault) → n ≤ condition j → condition j < m → HasFault c j → ⊥)
    (λ k. HasFault c k × ((n ≤ condition k) × ((condition k < m) × ((j : SigFault) → n ≤ condition j → IsEarlier j k → HasFault c j → ⊥))))

-- the conditions that speak of one operator alone
abbrev pub fault_at : Condition → OpId → SigFault
fault_at Kinds f = KindsDiffer f
fault_at Shape f = AxiomShape f
fault_at Same f = AxiomsDiffer f
fault_at Identity f = IdentityBad f

-- the place of such a condition among all
abbrev pub place_of : Condition → ℕ
place_of Kinds = 2
place_of Shape = 3
place_of Same = 4
place_of Identity = 5

-- the first operator with the property
abbrev pub IsFirstOperator : (OpId → Type 0) → Option OpId → Type 0
IsFirstOperator P r = MatchOption r ((f : OpId) → P f → ⊥) (λ f. P f × ((g : OpId) → g.0 < f.0 → P g → ⊥))

-- no operator has declarations that differ in kinds
abbrev pub AgreeInKinds : Collected → Type 0
AgreeInKinds c = (f : OpId) → Differ (HaveOneKind (completed c)) (declared (completed c) f).ranks → ⊥

-- the first list of sorts with the property, in lexicographic order; the search gives the sorts as the list does
abbrev pub IsFirstList : {A : Type 0} → (A → List SortId) → (A → Type 0) → Option A → Type 0
IsFirstList {A} sorts P r = MatchOption r ((a : A) → P a → ⊥) (λ a. P a × ((b : A) → IsBefore (sort_numbers (sorts b)) (sort_numbers (sorts a)) → P b → ⊥))

-- the sorts of a list
abbrev pub the_list : List SortId → List SortId
the_list ss = ss

-- the sorts of one
abbrev pub one_sort : SortId → List SortId
one_sort s = s ∷ []

-- the sorts of a pair
abbrev pub two_sorts : SortId × SortId → List SortId
two_sorts p = p.0 ∷ p.1 ∷ []

-- the sorts of three
abbrev pub three_sorts : Triple → List SortId
three_sorts t = t.first ∷ t.second ∷ t.third ∷ []

module _ (d : Declarations) (f : OpId) where
  -- the sort has the kind, and over it and the two before it the sort of the sum depends on its brackets
  abbrev pub IsBadThird : SortId → SortId → SortId → SortId → Type 0
  IsBadThird k s q r = (kind d r ≡ k) × (Associates d f s q r → ⊥)

  -- the two have the kind, and over them after s the sort of the sum depends on its brackets
  abbrev pub AreBadAfter : SortId → SortId → SortId × SortId → Type 0
  AreBadAfter k s p = (kind d p.0 ≡ k) × IsBadThird k s p.0 p.1

  -- the three have the kind, and over them the sort of the sum depends on its brackets
  abbrev pub AreBad : SortId → Triple → Type 0
  AreBad k t = (kind d t.first ≡ k) × AreBadAfter k t.first (t.second, t.third)

  -- of the first n sorts, results with q first are among them
  abbrev pub GivesListed : ℕ → SortId → Type 0
  GivesListed n q = (r : SortId) → r.0 < n → (result d f (q ∷ r ∷ [])).0 < n

  -- results over two of the first n sorts are among them
  abbrev pub AreListed : ℕ → Type 0
  AreListed n = (q : SortId) → q.0 < n → GivesListed n q

  -- with each of the first n sorts after them the two give the same results
  abbrev pub AreTwins : ℕ → SortId → SortId → Type 0
  AreTwins n q s = (r : SortId) → r.0 < n → result d f (q ∷ r ∷ []) ≡ result d f (s ∷ r ∷ [])

  -- an earlier sort of the kind gives the same results
  abbrev pub HasTwin : ℕ → SortId → SortId → Type 0
  HasTwin n k s = (q : SortId) × ((q.0 < s.0) × ((kind d q ≡ k) × AreTwins n q s))

  -- the sort has the kind, and is not at or below that of its sum by f with the constant e
  abbrev pub DoesNotCollapse : OpId → SortId → SortId → Type 0
  DoesNotCollapse e k s = (kind d s ≡ k) × (Collapses d f e s → ⊥)

module _ (d : Declarations) where
  -- the rank with these arguments one argument further, where it takes one of sort s first
  abbrev pub advanced_one : SortId → List SortId → SortId → List Rank
  advanced_one s [] r = []
  advanced_one s (a ∷ more) r = cond (at_or_below d s a) (record { args = more; result = r } ∷ []) []

  -- the ranks that take an argument of sort s first, without this argument
  abbrev pub advanced : SortId → List Rank → List Rank
  advanced s [] = []
  advanced s (r ∷ rs) = advanced_one s r.args r.result ++ advanced s rs

  -- whether arguments of these sorts have a least result by these ranks
  abbrev pub has_lowest : List Rank → List SortId → Bool
  has_lowest rs ss = is_some (find (is_lowest d (results d rs ss)) (results d rs ss))

  -- these sorts have these kinds, and no least result by these ranks
  abbrev pub HasNoLowest : List SortId → List Rank → List SortId → Type 0
  HasNoLowest ks rs ss = (map (kind d) ss ≡ ks) × (has_lowest rs ss ≡ false)
