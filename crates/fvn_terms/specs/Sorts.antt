-- The sorts of a term.
-- Maude Manual, chapter 3.
-- J. A. Goguen and J. Meseguer, Order-sorted algebra I, 1992.
use Rattle.std.specs.Prelude.{◌≡◌, List, [], ◌∷◌, map, Contains}
use Rattle.fvn_terms.specs.declared.plain.Var.{Var}
use Rattle.fvn_terms.specs.declared.plain.OpId.{OpId}
use Rattle.fvn_terms.specs.declared.plain.SortId.{SortId}
use Rattle.fvn_terms.specs.declared.declarations.Rank.{Rank}
use Rattle.fvn_terms.specs.declared.declarations.Declarations.{Declarations}
use Rattle.fvn_terms.specs.Term.{Term, Terms, var, app, none, more}
use Rattle.fvn_terms.specs.Substitution.{Substitution}
use Rattle.fvn_terms.specs.Signature.{kind, declared, axioms, AtOrBelow, KeepsKinds}
use Rattle.fvn_terms.specs.Equality.{IsCommutative, BEqual}

module _ (d : Declarations) where
  -- f takes arguments of these sorts to this sort
  pub data HasRank (f : OpId) : List SortId → SortId → Type 0 where
    is_declared : {ss : List SortId} {s : SortId} → (r : Rank) → Contains (declared d f).ranks r → r.args ≡ ss → r.result ≡ s → HasRank f ss s
    on_kinds : {ss : List SortId} {s : SortId} → (r : Rank) → Contains (declared d f).ranks r →
        map (kind d) r.args ≡ ss → kind d r.result ≡ s → HasRank f ss s
    swapped : {s q r : SortId} → IsCommutative (axioms d f) → HasRank f (s ∷ q ∷ []) r → HasRank f (q ∷ s ∷ []) r

  -- some sort that is got is s or below it
  pub record GetsBelow (GetsSort : SortId → Type 0) (s : SortId) : Type 0 where
    pub sort : SortId
    pub gets : GetsSort sort
    pub below : AtOrBelow d sort s

  -- f takes arguments as these to s
  pub record FitsSorts (f : OpId) (Fit : List SortId → Type 0) (s : SortId) : Type 0 where
    pub sorts : List SortId
    pub rank : HasRank f sorts s
    pub args : Fit sorts

  -- the term gets this sort
  abbrev mutual
    pub Gets : Term → SortId → Type 0
    Gets (var x) s = x.sort ≡ s
    Gets (app f ts) s = FitsSorts f (GetAtMost ts) s

    -- each term gets a sort at or below the one in its place
    pub GetAtMost : Terms → List SortId → Type 0
    GetAtMost none [] = Unit {0}
    GetAtMost none (s ∷ ss) = ⊥
    GetAtMost (more t ts) [] = ⊥
    GetAtMost (more t ts) (s ∷ ss) = GetsBelow (Gets t) s × GetAtMost ts ss

  -- some term that is equal modulo the axioms gets s or a sort below it
  pub record HasSort (t : Term) (s : SortId) : Type 0 where
    pub form : Term
    pub equal : BEqual d t form
    pub gets : GetsBelow (Gets form) s

  -- each variable goes to a term of its sort
  abbrev pub IsWellSorted : Substitution → Type 0
  IsWellSorted s = KeepsKinds d s × ((x : Var) → HasSort (s x) x.sort)

  -- the term has this sort, and each sort that it has is this one or above it
  pub record IsLeastSort (t : Term) (s : SortId) : Type 0 where
    pub has : HasSort t s
    pub least : (q : SortId) → HasSort t q → AtOrBelow d s q
