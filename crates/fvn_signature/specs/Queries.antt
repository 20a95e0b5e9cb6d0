-- What the queries of a signature answer.
use Rattle.std.specs.Prelude.{◌≡◌, ◌≤◌, ◌<◌, ◌↔◌, ℕ, Bool, not, ◌&&◌, List, [], ◌∷◌, filter, length, All, Contains}
use Rattle.std.specs.List.{list_all}
use Rattle.fvn_terms.specs.declared.plain.OpId.{OpId}
use Rattle.fvn_terms.specs.declared.plain.SortId.{SortId}
use Rattle.fvn_terms.specs.declared.declarations.Rank.{Rank}
use Rattle.fvn_terms.specs.declared.declarations.Declarations.{Declarations}
use Rattle.fvn_terms.specs.Signature.{kind, declared, IsSort, AtOrBelow}
use Rattle.fvn_forms.specs.SortOrder.{same_sort, at_or_below}
use Rattle.fvn_signature.specs.FirstSorts.{first_sorts}
use Rattle.fvn_signature.specs.Joined.{Joined}

-- the number of arguments of the first rank; without one it is 0
abbrev pub first_length : List Rank → ℕ
first_length [] = 0
first_length (r ∷ rs) = length r.args

module _ (d : Declarations) where
  -- the number of arguments of an operator
  abbrev pub arity : OpId → ℕ
  arity f = first_length (declared d f).ranks

  -- by each of its declarations f gives this kind
  abbrev pub GivesKind : OpId → SortId → Type 0
  GivesKind f k = (r : Rank) → Contains (declared d f).ranks r → k ≡ kind d r.result

  -- k is one of the kinds; they are numbered after the declared sorts
  pub record IsKind (k : SortId) : Type 0 where
    pub after_sorts : d.sorts ≤ k.0
    pub listed : IsSort d k

  -- s is a declared sort of the kind, and no pair of the order leads up from it
  pub record IsMaximalOf (k s : SortId) : Type 0 where
    pub declared : s.0 < d.sorts
    pub of_kind : kind d s ≡ k
    pub maximal : (q : SortId) → Contains d.below (s, q) → ⊥

  -- s is below q, and another sort
  abbrev pub IsBelow : SortId → SortId → Type 0
  IsBelow s q = AtOrBelow d s q × (s ≡ q → ⊥)

  -- t is a declared sort below s, with no declared sort between
  pub record IsDirectSubsort (s t : SortId) : Type 0 where
    pub declared : t.0 < d.sorts
    pub below : IsBelow t s
    pub between : (q : SortId) → q.0 < d.sorts → IsBelow t q → IsBelow q s → ⊥

  -- the test of being below
  abbrev pub is_below : SortId → SortId → Bool
  is_below s q = at_or_below d s q && not (same_sort s q)

  -- whether the declared sort t is a direct subsort of s
  abbrev pub is_direct : SortId → SortId → Bool
  is_direct s t = is_below t s && list_all (λ q. not (is_below t q && is_below q s)) (first_sorts d.sorts)

  -- the declared sorts right below s, in the order of declaration
  unfoldable pub direct_subsorts : SortId → List SortId
  direct_subsorts s = filter (is_direct s) (first_sorts d.sorts)

  -- sorts, kinds, pairs of the order and operators go together
  pub record IsCompleted : Type 0 where
    -- a declared sort is a sort of the signature
    pub sort_listed : (s : SortId) → s.0 < d.sorts → IsSort d s
    -- pairs of the order are of declared sorts
    pub in_range : All (λ p. (p.0.0 < d.sorts) × (p.1.0 < d.sorts)) d.below
    -- the kind of a sort is a kind
    pub kind_of_sort : (s : SortId) → IsSort d s → IsKind (kind d s)
    -- each kind is that of a declared sort
    pub sort_of_kind : (k : SortId) → IsKind k → (s : SortId) × ((s.0 < d.sorts) × (kind d s ≡ k))
    -- declared sorts of one kind are those that the order joins
    pub joined : (s q : SortId) → s.0 < d.sorts → q.0 < d.sorts → (kind d s ≡ kind d q) ↔ Joined d.below s q
    -- each operator is declared
    pub op_declared : (f : OpId) → f.0 < length d.ops → (r : Rank) × Contains (declared d f).ranks r
