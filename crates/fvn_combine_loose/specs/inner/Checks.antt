-- What is checked of each node, so that guessed heights are those of the classes in which a loose class stands.
use Rattle.std.specs.Prelude.{◌≡◌, ◌≢◌, ◌⊎◌, ℕ, ◌<◌, ◌≤◌, Bool, true, List, [], length, slice_get, slice_index_or, Option, Some, None, All, Any}
use Rattle.fvn_terms.specs.declared.plain.Var.{Var as Variable}
use Rattle.fvn_terms.specs.declared.plain.OpId.{OpId}
use Rattle.fvn_terms.specs.declared.plain.SortId.{SortId}
use Rattle.fvn_terms.specs.declared.declarations.Declarations.{Declarations}
use Rattle.fvn_terms.specs.Signature.{axioms}
use Rattle.fvn_terms.specs.Equality.{IsAssociative}
use Rattle.fvn_terms.specs.Sorts.{HasSort}
use Rattle.fvn_combine_nodes.specs.Table.{NodeTable, IsOver, term_at}
use Rattle.fvn_combine_nodes.specs.States.{class_of}
use Rattle.fvn_combine_nodes.specs.declared.state.State.{State}
use Rattle.fvn_combine_nodes.specs.declared.table.Node.TheVariants.{Var}
use Rattle.fvn_combine_inferring.specs.Rows.{HoldsSummands, IsHeld}
use Rattle.fvn_combine_loose.specs.Loose.{height_of, IsRaised, IsIdle, AreMadeAlike, IsSumOver, Bears, IsBearing, IsSumSort, IsHeaded, HaveSort, IsLoose}

-- node i is marked
abbrev pub IsMarked : List Bool → ℕ → Type 0
IsMarked marks i = slice_get marks i ≡ Some true

module _ (s : State) (heights : List ℕ) where
  -- one of the classes of two nodes has a height, and the other has none
  abbrev pub StandInOne : ℕ → ℕ → Type 0
  StandInOne i j = ((0 < height_of s heights i) × (height_of s heights j ≡ 0)) ⊎ ((height_of s heights i ≡ 0) × (0 < height_of s heights j))

  -- no height of the classes of these nodes is above it, and where it is not 0 one of them has a height
  pub record IsHighest (ks : List ℕ) (high : ℕ) : Type 0 where
    pub above : All (λ k. height_of s heights k ≤ high) ks
    pub reached : 0 < high → Any (λ k. 0 < height_of s heights k) ks

module _ (t : NodeTable) (s : State) where
  -- where an operator heads node i, the node is idle
  abbrev pub IsOpenNode : ℕ → Type 0
  IsOpenNode i = (f : OpId) (ks : List ℕ) → IsOver t.nodes i f ks → IsIdle t s i f ks

  -- where an operator heads node i, the node is idle, or above its arguments
  abbrev pub AreRaised : List ℕ → ℕ → Type 0
  AreRaised heights i = (f : OpId) (ks : List ℕ) → IsOver t.nodes i f ks → IsIdle t s i f ks ⊎ IsRaised s heights i ks

  -- what is checked of node i
  pub record IsBuilt (marks : List Bool) (heights : List ℕ) (z i : ℕ) : Type 0 where
    pub raised : AreRaised heights i
    pub bottom : class_of s i ≡ class_of s z → IsOpenNode i
    pub marked : class_of s i ≢ class_of s z → 0 < height_of s heights i → IsMarked marks i

module _ (d : Declarations) (t : NodeTable) (s : State) where
  -- where an operator heads node i, the node is idle, or it is g over arguments that are made alike ls
  abbrev pub AreOver : ℕ → OpId → List ℕ → Type 0
  AreOver i g ls = (f : OpId) (ks : List ℕ) → IsOver t.nodes i f ks → IsIdle t s i f ks ⊎ ((f ≡ g) × AreMadeAlike d (class_of s) f ks ls)

  -- An operator heads node m, in the class of node i, over nodes of other classes. What heads node i is it over arguments that are
  -- made alike, or node i is idle.
  pub record IsLike (m i : ℕ) : Type 0 where
    pub operator : OpId
    pub arguments : List ℕ
    pub over : IsOver t.nodes m operator arguments
    pub of : class_of s m ≡ class_of s i
    pub others : All (λ k. class_of s k ≢ class_of s i) arguments
    pub alike : AreOver i operator arguments

  -- node i is like the node that is noted to head its class
  pub record IsNoted (heads : List (Option ℕ)) (i : ℕ) : Type 0 where
    pub member : ℕ
    pub noted : slice_index_or heads (class_of s i) None ≡ Some member
    pub like : IsLike member i

  -- where an operator heads node j, in the class of node i, the node is idle, or its term has the sort
  abbrev pub IsOfSort : ℕ → SortId → ℕ → Type 0
  IsOfSort i sort j = (f : OpId) (ks : List ℕ) → IsOver t.nodes j f ks → class_of s i ≡ class_of s j
      → IsIdle t s j f ks ⊎ HasSort d (term_at t.nodes j) sort

  -- all nodes in the class of node i that operators head have the sort, but idle ones
  abbrev pub AreOfSort : ℕ → SortId → Type 0
  AreOfSort i sort = (j : ℕ) → j < length t.nodes → IsOfSort i sort j

  -- node i is like the node that is noted to head its class, and where it is a variable, what operators head there has its sort
  pub record IsFine (heads : List (Option ℕ)) (i : ℕ) : Type 0 where
    pub noted : IsNoted heads i
    pub sorted : (x : Variable) → slice_get t.nodes i ≡ Some (Var x) → AreOfSort i x.sort

  -- so is each marked node
  abbrev pub EachIsFine : List (Option ℕ) → List Bool → Type 0
  EachIsFine heads marks = (k : ℕ) → IsMarked marks k → IsFine heads k

  -- each marked node is so by some noted heads
  pub record AreFine (marks : List Bool) : Type 0 where
    pub heads : List (Option ℕ)
    pub each : EachIsFine heads marks

  -- where node i is a variable, what operators head in its class has its sort
  abbrev pub IsKept : ℕ → Type 0
  IsKept i = (x : Variable) → slice_get t.nodes i ≡ Some (Var x) → AreOfSort i x.sort

  -- so is each marked node
  abbrev pub EachIsKept : List Bool → Type 0
  EachIsKept marks = (k : ℕ) → IsMarked marks k → IsKept k

  -- the class of node z is loose by as many heights as there are nodes, without sums
  abbrev pub IsLooseBy : ℕ → List ℕ → Type 0
  IsLooseBy z heights = (length heights ≡ length t.nodes) × ((sorted : Bool) → IsLoose d t s sorted z heights [])

module _ (d : Declarations) (t : NodeTable) (s : State) (sorted : Bool) where
  -- terms of the sort are sums of f of such terms alone, and an operator heads the class of node p, in which all have the sort
  pub record TakesSums (f : OpId) (p : ℕ) (sort : SortId) : Type 0 where
    pub sum_sort : IsSumSort d f sort
    pub headed : IsHeaded d t s sorted p
    pub sorts : HaveSort d t s sorted p sort

  -- where node i is a variable, its sort is such a one
  abbrev pub VariableTakesSums : OpId → ℕ → ℕ → Type 0
  VariableTakesSums f p i = (x : Variable) → slice_get t.nodes i ≡ Some (Var x) → TakesSums f p x.sort

  -- an operator heads the class of node i, or it is known to hold the summands of that of node p, and may have any others
  abbrev pub IsFilled : OpId → ℕ → ℕ → Type 0
  IsFilled f p i = IsHeaded d t s sorted i ⊎ (HoldsSummands d t s sorted f p i × VariableTakesSums f p i)

  module _ (heights : List ℕ) (sums : List (Option (OpId × ℕ))) where
    -- where an operator heads node i, the node is idle, or it adds what bears p to what the loose class does not stand in
    abbrev pub IsAdding : OpId → ℕ → ℕ → Type 0
    IsAdding f p i = (g : OpId) (ks : List ℕ) → IsOver t.nodes i g ks → IsIdle t s i g ks ⊎ ((g ≡ f) × IsBearing s heights sums f p ks)

    -- f is associative, and the loose class stands in the class of node p, which is lower than that of node i
    pub record IsPart (f : OpId) (p i : ℕ) : Type 0 where
      pub associative : IsAssociative (axioms d f)
      pub within : p < length t.nodes
      pub stands : 0 < height_of s heights p
      pub lower : height_of s heights p < height_of s heights i

    -- what is checked of node i, the class of which is noted as a sum of f over p
    pub record IsAdded (f : OpId) (p i : ℕ) : Type 0 where
      pub part : IsPart f p i
      pub adding : IsAdding f p i
      pub kept : IsKept d t s i
      pub filled : IsFilled f p i

    -- What is checked of node i, by which z's class is loose: it is above its arguments or idle. In z's class it is idle; in another class
    -- it is marked where the loose class stands in it and no sum is noted, and added where one is.
    pub record IsPut (marks : List Bool) (z i : ℕ) : Type 0 where
      pub raised : AreRaised t s heights i
      pub bottom : class_of s i ≡ class_of s z → IsOpenNode t s i
      pub marked : class_of s i ≢ class_of s z → slice_index_or sums (class_of s i) None ≡ None → 0 < height_of s heights i → IsMarked marks i
      pub sum : class_of s i ≢ class_of s z → (f : OpId) (p : ℕ) → IsSumOver s heights sums f p i → IsAdded f p i

  -- What is known of the nodes before the classes are looked at one by one: which nodes are fine, which are kept, sorts of nodes, and what
  -- classes hold whatever values go with the state.
  pub record AreFacts (fine kept : List Bool) (held : List (OpId × ℕ × ℕ)) : Type 0 where
    pub fine_nodes : AreFine d t s fine
    pub kept_nodes : EachIsKept d t s kept
    pub holding : All (IsHeld d t s sorted) held
