-- Sizes of values: classes whose values have no more symbols than those of others, or fewer.
use Rattle.std.specs.Prelude.{◌≡◌, ℕ, ◌≤◌, ◌<◌, Bool, true, false, zero, suc, List, length, slice_index_or, All}
use Rattle.fvn_terms.specs.declared.plain.OpId.{OpId}
use Rattle.fvn_terms.specs.declared.declarations.Declarations.{Declarations}
use Rattle.fvn_forms.specs.Flat.{FlatTerm, symbols}
use Rattle.fvn_combine_nodes.specs.Table.{NodeTable}
use Rattle.fvn_combine_nodes.specs.States.{class_of}
use Rattle.fvn_combine_nodes.specs.declared.state.State.{State}
use Rattle.fvn_combine_inferring.specs.Sorted.{GoWithSorts}
use Rattle.fvn_combine_inferring.specs.Rows.{times}
use Rattle.fvn_combine_inferring.specs.declared.sizes.Inside.{Inside}

-- m is no more than n, or less
abbrev pub IsLess : Bool → ℕ → ℕ → Type 0
IsLess false m n = m ≤ n
IsLess true m n = m < n

-- a pair holds of weights of classes
abbrev pub IsSaid : (ℕ → ℕ) → Inside → Type 0
IsSaid w e = IsLess e.proper (w e.small) (w e.large)

-- all pairs do
abbrev pub AreSaid : (ℕ → ℕ) → List Inside → Type 0
AreSaid w list = All (IsSaid w) list

-- what is noted of class x beside class k, as a number: nothing, that it has no fewer symbols, or that it has more
abbrev pub IsNoted : (ℕ → ℕ) → (k x : ℕ) → ℕ → Type 0
IsNoted w k x zero = Unit {0}
IsNoted w k x (suc zero) = w k ≤ w x
IsNoted w k x (suc (suc n)) = w k < w x

-- what is noted of each class holds of weights of classes
abbrev pub AreNoted : (ℕ → ℕ) → ℕ → List ℕ → Type 0
AreNoted w k marks = (x : ℕ) → IsNoted w k x (slice_index_or marks x 0)

-- what is noted of a class that contains one of which this is noted
abbrev pub followed_mark : ℕ → Bool → ℕ
followed_mark mark true = 2
followed_mark mark false = mark

module _ (s : State) (values : ℕ → FlatTerm) where
  -- the symbols of the value of the class of node k
  abbrev pub size : ℕ → ℕ
  size k = symbols (values (class_of s k))

module _ (d : Declarations) (t : NodeTable) (s : State) (sorted : Bool) where
  -- the pairs hold of the sizes of all values that go with the state
  abbrev pub AreInside : List Inside → Type 0
  AreInside list = (values : ℕ → FlatTerm) → GoWithSorts d t s sorted values → AreSaid (size s values) list

  -- a pair of nodes holds of the sizes of all values that go with the state
  pub record IsPair (e : Inside) : Type 0 where
    pub small : e.small < length t.nodes
    pub large : e.large < length t.nodes
    pub said : (values : ℕ → FlatTerm) → GoWithSorts d t s sorted values → IsSaid (size s values) e

  -- the class of node k has fewer symbols than that of node i
  abbrev pub HasFewer : (i k : ℕ) → Type 0
  HasFewer i k = IsPair (record { small = k; large = i; proper = true })

  -- whatever values go with the state, that of the class of node k is no summand of that of the class of node l
  abbrev pub IsNoSummand : OpId → ℕ → ℕ → Type 0
  IsNoSummand f k l = (values : ℕ → FlatTerm) → GoWithSorts d t s sorted values → times d s f values (values (class_of s k)) l ≡ 0
