-- Clashes: sums at nodes, and those nodes that may have the value of a node's class, as they are counted.
use Rattle.std.specs.Prelude.{◌≡◌, ◌⊎◌, ℕ, ◌+◌, ◌<◌, ◌≤◌, zero, suc, Bool, length, Some}
use Rattle.fvn_terms.specs.declared.declarations.Declarations.{Declarations}
use Rattle.fvn_forms.specs.Flat.{FlatTerm}
use Rattle.fvn_flat.specs.Forms.{head_of}
use Rattle.fvn_combine_nodes.specs.Table.{NodeTable}
use Rattle.fvn_combine_nodes.specs.States.{class_of}
use Rattle.fvn_combine_nodes.specs.declared.state.State.{State}
use Rattle.fvn_combine_inferring.specs.Sorted.{GoWithSorts}
use Rattle.fvn_combine_inferring.specs.declared.clashing.NodeSum.{NodeSum}
use Rattle.fvn_combine_inferring.specs.declared.clashing.Clash.{Clash}

-- where n nodes are left that may have value v, and w is that of the first: there are some, and where there is one it has it
abbrev pub IsLeft : ℕ → (v w : FlatTerm) → Type 0
IsLeft zero v w = ⊥
IsLeft (suc zero) v w = v ≡ w
IsLeft (suc (suc n)) v w = Unit {0}

-- the node of a clash, and the first that may have its value, are below n
pub record IsBelow (n : ℕ) (c : Clash) : Type 0 where
  pub node : c.node < n
  pub first : c.first < n

-- the clash is of the same node, and counts at most m nodes more
pub record IsMore (m : ℕ) (before after : Clash) : Type 0 where
  pub node : after.node ≡ before.node
  pub few : after.number ≤ before.number + m

module _ (s : State) (values : ℕ → FlatTerm) where
  -- the classes of nodes i and k have one value
  abbrev pub AreEqual : ℕ → ℕ → Type 0
  AreEqual i k = values (class_of s i) ≡ values (class_of s k)

  -- the operator heads the value of the sum's class, or this is the value of one of both that are added
  abbrev pub IsSumOrAddend : NodeSum → Type 0
  IsSumOrAddend e = (head_of (values (class_of s e.node)) ≡ Some e.operator) ⊎ AreEqual e.node e.left ⊎ AreEqual e.node e.right

  -- one of the nodes that are counted has the value of the node's class
  abbrev pub HasCandidate : Clash → Type 0
  HasCandidate c = IsLeft c.number (values (class_of s c.node)) (values (class_of s c.first))

  -- node k is counted besides, where it has the value
  pub record IsCounted (before : Clash) (k : ℕ) (after : Clash) : Type 0 where
    pub kept : HasCandidate before → HasCandidate after
    pub new : AreEqual before.node k → HasCandidate after

  -- so are both nodes that a sum adds
  pub record AreCounted (before : Clash) (e : NodeSum) (after : Clash) : Type 0 where
    pub kept : HasCandidate before → HasCandidate after
    pub left : AreEqual before.node e.left → HasCandidate after
    pub right : AreEqual before.node e.right → HasCandidate after

module _ (d : Declarations) (t : NodeTable) (s : State) (sorted : Bool) where
  -- a sum of two nodes: whatever values go with the state, its operator heads it, or one of both has its value
  pub record IsNodeSum (e : NodeSum) : Type 0 where
    pub node : e.node < length t.nodes
    pub left : e.left < length t.nodes
    pub right : e.right < length t.nodes
    pub headed : (values : ℕ → FlatTerm) → GoWithSorts d t s sorted values → IsSumOrAddend s values e

  -- whatever values go with the state, one of the nodes that are counted has the value of the node's class
  pub record IsClash (c : Clash) : Type 0 where
    pub below : IsBelow (length t.nodes) c
    pub some : (values : ℕ → FlatTerm) → GoWithSorts d t s sorted values → HasCandidate s values c
