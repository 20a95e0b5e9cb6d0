-- The faults of what was collected, and which of them comes first.
use Rattle.std.specs.Prelude.{◌≡◌, ◌<◌, ◌⊎◌, ℕ, List, [], ◌∷◌, map, length, Any, Contains, Some}
use Rattle.fvn_base.specs.declared.limits.TheConstants.{SORTS, OPERATORS, ARGUMENTS}
use Rattle.fvn_terms.specs.declared.plain.OpId.{OpId}
use Rattle.fvn_terms.specs.declared.plain.SortId.{SortId}
use Rattle.fvn_terms.specs.declared.declarations.Rank.{Rank}
use Rattle.fvn_terms.specs.Signature.{kind, declared, axioms, AtOrBelow, HasKind}
use Rattle.fvn_terms.specs.Equality.{IsCommutative, IsAssociative, constant, identity as identity_of}
use Rattle.fvn_forms.specs.Ranks.{IsResult}
use Rattle.fvn_forms.specs.FitsKinds.{HaveOneKind, TakesTwoAlike, TakesTwoOfItsKind}
use Rattle.fvn_forms.specs.Good.{TakesKinds, IsOfKind, Associates, Collapses}
use Rattle.fvn_base.specs.Order.{IsBefore, IsFirst}
use Rattle.fvn_signature_draft.specs.declared.collected.Declaration.{Declaration}
use Rattle.fvn_sorts.specs.declared.conditions.fault.SigFault.{SigFault}
use Rattle.fvn_sorts.specs.declared.conditions.fault.SigFault.TheVariants.{SortCycle, KindsDiffer, AxiomShape, AxiomsDiffer, IdentityBad, NotPreregular, NotAssocSorts, NotCollapsing, TooMany, NoMemory}
use Rattle.fvn_signature_draft.specs.declared.collected.Collected.{Collected}
use Rattle.fvn_signature_draft.specs.Collected.{declarations_of, rank_meant, completed}

-- two elements of the list are not related
pub record Differ {A : Type 0} (R : A → A → Type 0) (xs : List A) : Type 0 where
  pub one : A
  pub other : A
  pub one_listed : Contains xs one
  pub other_listed : Contains xs other
  pub differ : R one other → ⊥

module _ (c : Collected) where
  -- a pair leads up from the sort, and the order back to it
  abbrev pub IsOnCycle : SortId → Type 0
  IsOnCycle s = (q : SortId) × (Contains c.below (s, q) × AtOrBelow (completed c) q s)

  -- the declaration's axioms do not stand on its shape
  abbrev pub HasBadShape : Declaration → Type 0
  HasBadShape e =
      (IsCommutative e.axioms × (TakesTwoAlike (completed c) (rank_meant c e) → ⊥))
      ⊎ (IsAssociative e.axioms × (TakesTwoOfItsKind (completed c) (rank_meant c e) → ⊥))

  -- the operator has an identity that is not a constant of the kind that a rank of it gives
  pub record HasBadIdentity (f : OpId) : Type 0 where
    pub identity : OpId
    pub named : identity_of (axioms (completed c) f) ≡ Some identity
    pub rank : Rank
    pub listed : Contains (declared (completed c) f).ranks rank
    pub bad : HasKind (completed c) (constant identity) (kind (completed c) rank.result) → ⊥

  -- over these sorts of its argument kinds the operator has no least result
  abbrev pub HasNoResult : OpId → List SortId → Type 0
  HasNoResult f ss = TakesKinds (completed c) f ss × ((r : SortId) → IsResult (completed c) f ss r → ⊥)

  -- the sort of a sum over these sorts of the operator's kind depends on its brackets
  pub record HasBadBrackets (f : OpId) (s q r : SortId) : Type 0 where
    pub associative : IsAssociative (axioms (completed c) f)
    pub first : IsOfKind (completed c) f s
    pub second : IsOfKind (completed c) f q
    pub third : IsOfKind (completed c) f r
    pub bad : Associates (completed c) f s q r → ⊥

  -- this sort is not at or below that of its sum with the identity
  pub record HasBadCollapse (f : OpId) (s : SortId) : Type 0 where
    pub identity : OpId
    pub named : identity_of (axioms (completed c) f) ≡ Some identity
    pub of_kind : IsOfKind (completed c) f s
    pub bad : Collapses (completed c) f identity s → ⊥

  -- there are more sorts, operators, or arguments of one operator than a signature may have
  abbrev pub IsTooLarge : Type 0
  IsTooLarge = (SORTS < c.sorts) ⊎ ((OPERATORS < c.operators) ⊎ Any (λ e. ARGUMENTS < length e.rank.args) c.declarations)

  -- what was collected has this fault
  abbrev pub HasFault : SigFault → Type 0
  HasFault (SortCycle s) = IsOnCycle s
  HasFault (KindsDiffer f) = Differ (HaveOneKind (completed c)) (declared (completed c) f).ranks
  HasFault (AxiomShape f) = Any (λ e. (e.op ≡ f) × HasBadShape e) c.declarations
  HasFault (AxiomsDiffer f) = Differ (λ e g. e.axioms ≡ g.axioms) (declarations_of c f)
  HasFault (IdentityBad f) = HasBadIdentity f
  HasFault (NotPreregular f ss) = HasNoResult f ss
  HasFault (NotAssocSorts f s q r) = HasBadBrackets f s q r
  HasFault (NotCollapsing f s) = HasBadCollapse f s
  HasFault TooMany = IsTooLarge
  HasFault NoMemory = ⊥

-- the place of a fault in the order in which faults are told: its condition, then the operator, then the sorts
abbrev pub condition : SigFault → ℕ
condition TooMany = 0
condition (SortCycle s) = 1
condition (KindsDiffer f) = 2
condition (AxiomShape f) = 3
condition (AxiomsDiffer f) = 4
condition (IdentityBad f) = 5
condition (NotPreregular f ss) = 6
condition (NotAssocSorts f s q r) = 7
condition (NotCollapsing f s) = 8
condition NoMemory = 9

-- the numbers of sorts
abbrev pub sort_numbers : List SortId → List ℕ
sort_numbers = map (λ s. s.0)

-- what shows a fault: its operator and its sorts, by their numbers
abbrev pub witness : SigFault → List ℕ
witness TooMany = []
witness (SortCycle s) = s.0 ∷ []
witness (KindsDiffer f) = f.0 ∷ []
witness (AxiomShape f) = f.0 ∷ []
witness (AxiomsDiffer f) = f.0 ∷ []
witness (IdentityBad f) = f.0 ∷ []
witness (NotPreregular f ss) = f.0 ∷ sort_numbers ss
witness (NotAssocSorts f s q r) = f.0 ∷ sort_numbers (s ∷ q ∷ r ∷ [])
witness (NotCollapsing f s) = f.0 ∷ sort_numbers (s ∷ [])
witness NoMemory = []

-- the fault is told before the other
abbrev pub IsEarlier : SigFault → SigFault → Type 0
IsEarlier j k = IsBefore (condition j ∷ witness j) (condition k ∷ witness k)

-- the first fault of what was collected
abbrev pub IsFirstFault : Collected → SigFault → Type 0
IsFirstFault c = IsFirst IsEarlier (HasFault c)

-- what was collected has no fault
abbrev pub HasNoFault : Collected → Type 0
HasNoFault c = (k : SigFault) → HasFault c k → ⊥
