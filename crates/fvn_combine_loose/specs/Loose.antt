-- Loose classes: those whose value may be a new variable under each unifier of a state, and the classes that are made from them.
use Rattle.std.specs.Prelude.{◌≡◌, ◌≢◌, ◌⊎◌, ◌↔◌, ℕ, ◌<◌, Bool, false, List, [], ◌∷◌, length, map, slice_get, slice_index_or, Option, Some, None, All, Any, Contains}
use Rattle.fvn_terms.specs.declared.plain.Var.{Var as Variable}
use Rattle.fvn_terms.specs.declared.plain.OpId.{OpId}
use Rattle.fvn_terms.specs.declared.plain.SortId.{SortId}
use Rattle.fvn_terms.specs.declared.declarations.Declarations.{Declarations}
use Rattle.fvn_terms.specs.Signature.{axioms, AtOrBelow, IsTerm}
use Rattle.fvn_terms.specs.Equality.{IsAssociative, IsCommutative}
use Rattle.fvn_terms.specs.Sorts.{HasSort}
use Rattle.fvn_forms.specs.Flat.{FlatTerm, plain}
use Rattle.fvn_forms.specs.Settled.{Settled}
use Rattle.fvn_forms.specs.Canon.{parts}
use Rattle.fvn_forms.specs.LeastSort.{least_sort}
use Rattle.fvn_forms.specs.Good.{IsOfKind}
use Rattle.fvn_combine_nodes.specs.Table.{NodeTable, IsOver, term_at}
use Rattle.fvn_combine_nodes.specs.Classes.{AreTogether}
use Rattle.fvn_combine_nodes.specs.States.{IsOpen, class_of}
use Rattle.fvn_combine_nodes.specs.declared.state.State.{State}
use Rattle.fvn_combine_nodes.specs.declared.table.Node.TheVariants.{Var}
use Rattle.fvn_combine_inferring.specs.Rows.{HoldsSummands}

module _ (s : State) (heights : List ℕ) where
  -- the height of node i's class: 0 where the loose class does not stand in it
  abbrev pub height_of : ℕ → ℕ
  height_of i = slice_index_or heights (class_of s i) 0

  -- the loose class stands in the class of node i
  abbrev pub StandsIn : ℕ → Type 0
  StandsIn i = 0 < height_of i

  -- node i is above all of these nodes that have a height, and has one exactly where one of these has
  pub record IsRaised (i : ℕ) (ks : List ℕ) : Type 0 where
    pub upward : Any StandsIn ks → StandsIn i
    pub lower : All (λ k. StandsIn k → height_of k < height_of i) ks
    pub over : StandsIn i → Any StandsIn ks

-- there are two nodes in each list, and they lie in the same classes crosswise
pub record AreCrosswise (class : ℕ → ℕ) (ks ls : List ℕ) : Type 0 where
  pub first : ℕ
  pub second : ℕ
  pub left : map class ks ≡ first ∷ second ∷ []
  pub right : map class ls ≡ second ∷ first ∷ []

-- arguments of f lie in the same classes place by place, or crosswise where f is commutative
abbrev pub AreMadeAlike : Declarations → (ℕ → ℕ) → OpId → List ℕ → List ℕ → Type 0
AreMadeAlike d class f ks ls = AreTogether class ks ls ⊎ (IsCommutative (axioms d f) × AreCrosswise class ks ls)

-- these are two nodes, the one of class a and the other of class b, in either order
abbrev pub AreOf : (ℕ → ℕ) → List ℕ → ℕ → ℕ → Type 0
AreOf class ks a b = (map class ks ≡ a ∷ b ∷ []) ⊎ (map class ks ≡ b ∷ a ∷ [])

-- Node i, which is f over the nodes ks, is idle: one of these is in the class of f's identity, and the other in that of i itself.
-- So it has the value of its class whatever that is.
pub record IsIdle (t : NodeTable) (s : State) (i : ℕ) (f : OpId) (ks : List ℕ) : Type 0 where
  pub identity : ℕ
  pub listed : Contains t.units (f, identity)
  pub classes : AreOf (class_of s) ks (class_of s i) (class_of s identity)

module _ (s : State) (heights : List ℕ) (sums : List (Option (OpId × ℕ))) where
  -- the class of node k is noted as a sum of f over node p: of the value of p's class and of what the loose class does not stand in
  abbrev pub IsSumOver : OpId → ℕ → ℕ → Type 0
  IsSumOver f p k = slice_index_or sums (class_of s k) None ≡ Some (f, p)

  -- node k is in the class of node p, or its class is a sum of f over it
  abbrev pub Bears : OpId → ℕ → ℕ → Type 0
  Bears f p k = (class_of s k ≡ class_of s p) ⊎ IsSumOver f p k

  -- these are two nodes: one of them bears p, and the loose class does not stand in the other
  pub record IsBearing (f : OpId) (p : ℕ) (ks : List ℕ) : Type 0 where
    pub first : ℕ
    pub second : ℕ
    pub are : ks ≡ first ∷ second ∷ []
    pub one : (Bears f p first × (height_of s heights second ≡ 0)) ⊎ ((height_of s heights first ≡ 0) × Bears f p second)

-- the sort is of the kind of f, and a sum of f has it exactly where each of its summands has it
pub record IsSumSort (d : Declarations) (f : OpId) (q : SortId) : Type 0 where
  pub of_kind : IsOfKind d f q
  pub exact : (v : FlatTerm) → Settled d v → IsTerm d (plain v) → AtOrBelow d (least_sort d v) q ↔ All (λ p. AtOrBelow d (least_sort d p) q) (parts d f v)

module _ (d : Declarations) (t : NodeTable) (s : State) (sorted : Bool) where
  -- an operator heads a member of node i's class that is not idle
  pub record IsHeaded (i : ℕ) : Type 0 where
    pub member : ℕ
    pub operator : OpId
    pub arguments : List ℕ
    pub over : IsOver t.nodes member operator arguments
    pub of : class_of s member ≡ class_of s i
    pub busy : IsIdle t s member operator arguments → ⊥

  -- what operators head in the class of node i, and is not idle, has the sort
  abbrev pub HaveSort : ℕ → SortId → Type 0
  HaveSort i q = (j : ℕ) (f : OpId) (ks : List ℕ) → IsOver t.nodes j f ks → class_of s i ≡ class_of s j → IsIdle t s j f ks ⊎ HasSort d (term_at t.nodes j) q

  module _ (z : ℕ) (heights : List ℕ) (sums : List (Option (OpId × ℕ))) where
    -- The class of node k is a sum of f over p, which is lower and in which the loose class stands: operators head it, or whatever values go
    -- with the state, its value holds the summands of that of p's class.
    pub record IsSum (f : OpId) (p k : ℕ) : Type 0 where
      pub associative : IsAssociative (axioms d f)
      pub part : p < length t.nodes
      pub stands : StandsIn s heights p
      pub lower : height_of s heights p < height_of s heights k
      pub held : IsHeaded k ⊎ HoldsSummands d t s sorted f p k
      -- the variables of a class that nothing heads take each sum, and what heads the summand is of their sorts
      pub taken : (i : ℕ) (x : Variable) → slice_get t.nodes i ≡ Some (Var x) → class_of s i ≡ class_of s k
          → IsHeaded k ⊎ (IsSumSort d f x.sort × IsHeaded p × HaveSort p x.sort)

    -- Operators head only idle members of z's class. Each other class in which z stands is made in one way alone. Either it is headed, and all its
    -- members that operators head and that are not idle are one operator over the same classes (in either order where it is commutative).
    -- Or it is a sum over one class in which z stands: each such member of it adds just that class, or a sum over it, to one in which z does not
    -- stand. All arguments in which z stands are lower than the whole. Where z stands in an argument it stands in the whole.
    -- So z's class may have any value, and makes those of the others.
    pub record IsLoose : Type 0 where
      pub within : z < length t.nodes
      pub stands : StandsIn s heights z
      pub open_class : (i : ℕ) (f : OpId) (ks : List ℕ) → IsOver t.nodes i f ks → class_of s i ≡ class_of s z → IsIdle t s i f ks
      pub no_sum : slice_index_or sums (class_of s z) None ≡ None
      pub raised : (i : ℕ) (f : OpId) (ks : List ℕ) → IsOver t.nodes i f ks → IsIdle t s i f ks ⊎ IsRaised s heights i ks
      pub made : (i : ℕ) → i < length t.nodes → StandsIn s heights i → class_of s i ≢ class_of s z → slice_index_or sums (class_of s i) None ≡ None → IsHeaded i
      pub alike : (i j : ℕ) (f g : OpId) (ks ls : List ℕ) → IsOver t.nodes i f ks → IsOver t.nodes j g ls → class_of s i ≡ class_of s j
          → StandsIn s heights i → slice_index_or sums (class_of s i) None ≡ None → (IsIdle t s i f ks ⊎ IsIdle t s j g ls) ⊎ ((f ≡ g) × AreMadeAlike d (class_of s) f ks ls)
      pub sum : (k : ℕ) (f : OpId) (p : ℕ) → k < length t.nodes → IsSumOver s heights sums f p k → IsSum f p k
      pub bearing : (i : ℕ) (g : OpId) (ks : List ℕ) (f : OpId) (p : ℕ) → IsOver t.nodes i g ks → IsSumOver s heights sums f p i
          → IsIdle t s i g ks ⊎ ((g ≡ f) × IsBearing s heights sums f p ks)
      -- what an operator heads has the sorts of the variables of its class, where it is not idle
      pub sorts : (i : ℕ) (x : Variable) → slice_get t.nodes i ≡ Some (Var x) → StandsIn s heights i → HaveSort i x.sort

  -- the heights of the classes in which some loose class stands
  pub record AreHeights (heights : List ℕ) : Type 0 where
    pub as_many : length heights ≡ length t.nodes
    pub bottom : ℕ
    pub sums : List (Option (OpId × ℕ))
    pub loose : IsLoose bottom heights sums

  -- a loose class stands in the class of one of the nodes, and not in that of the other
  pub record AreParted (i j : ℕ) : Type 0 where
    pub bottom : ℕ
    pub heights : List ℕ
    pub sums : List (Option (OpId × ℕ))
    pub loose : IsLoose bottom heights sums
    pub left : i < length t.nodes
    pub right : j < length t.nodes
    pub one : (StandsIn s heights i × (height_of s heights j ≡ 0)) ⊎ ((height_of s heights i ≡ 0) × StandsIn s heights j)

  -- so it is of two nodes of which it is open whether they are in one class
  pub record ArePartedOpen (p : ℕ × ℕ) : Type 0 where
    pub parted : AreParted p.0 p.1
    pub open_pair : IsOpen s p.0 p.1

-- the class of node z is loose, by some heights and without sums
pub record IsLooseClass (d : Declarations) (t : NodeTable) (s : State) (z : ℕ) : Type 0 where
  pub heights : List ℕ
  pub loose : IsLoose d t s false z heights []
