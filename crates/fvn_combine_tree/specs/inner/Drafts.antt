-- Tables in the making.
use Rattle.std.specs.Prelude.{◌≡◌, ◌≢◌, ◌⊎◌, ℕ, ◌<◌, ◌≤◌, not, nat_eq, List, [], ◌∷◌, ◌++◌, map, filter, length, slice_get, Option, Some, None, AllPairs, All, Any, Contains}
use Rattle.fvn_terms.specs.declared.plain.OpId.{OpId}
use Rattle.fvn_terms.specs.declared.declarations.Declarations.{Declarations}
use Rattle.fvn_terms.specs.Term.{Term}
use Rattle.fvn_terms.specs.Signature.{axioms}
use Rattle.fvn_terms.specs.Equality.{constant, identity}
use Rattle.fvn_terms.specs.Unifiers.{Problem}
use Rattle.fvn_combine_nodes.specs.Table.{terms_of, term_at, IsOver, IsOrdered}
use Rattle.fvn_combine_nodes.specs.declared.table.Node.{Node}
use Rattle.fvn_combine_nodes.specs.declared.table.Node.TheVariants.{App}
use Rattle.fvn_combine_tree.specs.declared.building.Draft.{Draft}

-- arguments stand before their operator, and no term stands at two nodes
abbrev pub AreNodes : List Node → Type 0
AreNodes nodes = IsOrdered nodes × AllPairs ◌≢◌ (terms_of nodes)

-- the node stands at the place; it was put at the end where it was not there
pub record IsEntered (before now : List Node) (node : Node) (place : ℕ) : Type 0 where
  pub at : slice_get now place ≡ Some node
  pub how : (now ≡ before) ⊎ ((now ≡ before ++ node ∷ []) × ((i : ℕ) → slice_get before i ≢ Some node))

-- the draft has grown by a walk along these terms: their nodes are noted in order, and no other nodes are new
pub record HasWalked (before now : Draft) (ts : List Term) : Type 0 where
  pub rest : List Node
  pub nodes : now.nodes.items ≡ before.nodes.items ++ rest
  pub steps : List ℕ
  pub walk : now.walk.items ≡ before.walk.items ++ steps
  pub within : All (λ i. i < length now.nodes.items) steps
  pub shows : map (term_at now.nodes.items) steps ≡ ts
  pub covers : (i : ℕ) → length before.nodes.items ≤ i → i < length now.nodes.items → Contains steps i

-- these are the nodes of both sides of each pair
pub record AreSides (nodes : List Node) (sides : List (ℕ × ℕ)) (problem : Problem) : Type 0 where
  pub within : All (λ p. (p.0 < length nodes) × (p.1 < length nodes)) sides
  pub are : map (λ p. (term_at nodes p.0, term_at nodes p.1)) sides ≡ problem

-- each number of the list once, where it first stands
abbrev pub once_each : List ℕ → List ℕ
once_each [] = []
once_each (i ∷ list) = i ∷ filter (λ j. not (nat_eq i j)) (once_each list)

module _ (d : Declarations) where
  -- a node's operator and its identity, where it has one and no entry; none where that is not so
  abbrev pub IsNewUnit : List (OpId × ℕ) → Node → Option (OpId × OpId) → Type 0
  IsNewUnit units node None = (f e : OpId) (ks : List ℕ) → node ≡ App f ks → identity (axioms d f) ≡ Some e → Any (λ p. p.0 ≡ f) units
  IsNewUnit units node (Some p) = ((ks : List ℕ) × (node ≡ App p.0 ks)) × (identity (axioms d p.0) ≡ Some p.1) × (Any (λ q. q.0 ≡ p.0) units → ⊥)

  -- an operator that heads one of the nodes, with the node of its identity
  pub record IsEntry (before now : List Node) (p : OpId × ℕ) : Type 0 where
    pub within : p.1 < length now
    pub place : ℕ
    pub arguments : List ℕ
    pub heads : IsOver before place p.0 arguments
    pub constant_of : OpId
    pub identity : identity (axioms d p.0) ≡ Some constant_of
    pub is : term_at now p.1 ≡ constant constant_of

  -- the operators with an identity that head one of the first m nodes, each once, with its identity; no other nodes are new
  pub record AreUnitsOf (m : ℕ) (before now : List Node) (units : List (OpId × ℕ)) : Type 0 where
    pub rest : List Node
    pub nodes : now ≡ before ++ rest
    pub entries : All (IsEntry before now) units
    pub all : (i : ℕ) (f e : OpId) (ks : List ℕ) → i < m → IsOver before i f ks → identity (axioms d f) ≡ Some e → Any (λ p. p.0 ≡ f) units
    pub once : AllPairs (λ p q. p.0 ≢ q.0) units
    pub covers : (i : ℕ) → length before ≤ i → i < length now → Any (λ p. p.1 ≡ i) units
