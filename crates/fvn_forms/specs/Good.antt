-- Good signatures.
-- Maude Manual, chapter 3.
-- The last two conditions on sorts, on brackets and on identities, are this project's own.
use Rattle.std.specs.Prelude.{◌≡◌, ◌≤◌, List, [], ◌∷◌, map, length, All, Contains, Some}
use Rattle.fvn_base.specs.declared.limits.TheConstants.{SORTS, OPERATORS, ARGUMENTS}
use Rattle.fvn_terms.specs.declared.plain.OpId.{OpId}
use Rattle.fvn_terms.specs.declared.plain.SortId.{SortId}
use Rattle.fvn_terms.specs.declared.declarations.Rank.{Rank}
use Rattle.fvn_terms.specs.declared.declarations.Declarations.{Declarations}
use Rattle.fvn_terms.specs.Signature.{kind, declared, axioms, IsSort, AtOrBelow}
use Rattle.fvn_terms.specs.Equality.{IsAssociative, identity}
use Rattle.fvn_forms.specs.FitsKinds.{FitsKinds}
use Rattle.fvn_forms.specs.Ranks.{IsResult, result}

module _ (d : Declarations) where
  -- some declaration of f takes arguments of the kinds of these sorts
  pub record TakesKinds (f : OpId) (args : List SortId) : Type 0 where
    pub rank : Rank
    pub listed : Contains (declared d f).ranks rank
    pub kinds : map (kind d) args ≡ map (kind d) rank.args

  -- the sort has the kind of what f gives
  pub record IsOfKind (f : OpId) (s : SortId) : Type 0 where
    pub rank : Rank
    pub listed : Contains (declared d f).ranks rank
    pub kind_is : kind d s ≡ kind d rank.result

  -- the kinds fit the order
  pub record IsKinded : Type 0 where
    -- a kind is its own kind
    pub own : (s : SortId) → kind d (kind d s) ≡ kind d s
    -- sorts in order have one kind
    pub ordered : (s q : SortId) → Contains d.below (s, q) → kind d s ≡ kind d q
    -- no sort is above a kind
    pub top : (s q : SortId) → Contains d.below (kind d s, q) → ⊥
    -- the kind of a sort is a sort
    pub listed : (s : SortId) → IsSort d s → IsSort d (kind d s)
    -- declarations name sorts
    pub ranks : (f : OpId) (r : Rank) → Contains (declared d f).ranks r → All (IsSort d) r.args × IsSort d r.result

  -- the sort of a sum of three by f does not depend on its brackets
  abbrev pub Associates : OpId → SortId → SortId → SortId → Type 0
  Associates f a b c = result d f (result d f (a ∷ b ∷ []) ∷ c ∷ []) ≡ result d f (a ∷ result d f (b ∷ c ∷ []) ∷ [])

  -- the sort is at or below that of its sum by f with the constant e
  abbrev pub Collapses : OpId → OpId → SortId → Type 0
  Collapses f e a = AtOrBelow d a (result d f (a ∷ result d e [] ∷ []))

  -- no more sorts, operators and arguments than a signature may have
  pub record IsWithinLimits : Type 0 where
    pub sorts : d.sorts ≤ SORTS
    pub operators : length d.ops ≤ OPERATORS
    pub arguments : (f : OpId) (r : Rank) → Contains (declared d f).ranks r → length r.args ≤ ARGUMENTS

  -- a good signature
  pub record IsGood : Type 0 where
    pub kinded : IsKinded
    -- the order has no cycle
    pub acyclic : (s q : SortId) → Contains d.below (s, q) → AtOrBelow d q s → ⊥
    -- kinds agree, axioms stand on operators of their shape, identities are constants of the kind
    pub fits : FitsKinds d
    -- over any sorts of its argument kinds an operator has a least result
    pub preregular : (f : OpId) (args : List SortId) → TakesKinds f args → (r : SortId) × IsResult d f args r
    -- the sort of a sum does not depend on its brackets
    pub associative_sorts : (f : OpId) (a b c : SortId) → IsAssociative (axioms d f) → IsOfKind f a → IsOfKind f b → IsOfKind f c → Associates f a b c
    -- a sort is at or below that of its sum with the identity
    pub collapse : (f e : OpId) (a : SortId) → identity (axioms d f) ≡ Some e → IsOfKind f a → Collapses f e a
    pub limits : IsWithinLimits
