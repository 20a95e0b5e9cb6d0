-- The parts of a problem: the nodes that splits put into classes.
use Rattle.std.specs.Prelude.{◌≡◌, ◌≢◌, ◌↔◌, ℕ, ◌<◌, Bool, false, is_some, List, ◌++◌, map, filter, slice_get, Option, Some, None, AllPairs, Contains}
use Rattle.fvn_terms.specs.declared.plain.OpId.{OpId}
use Rattle.fvn_terms.specs.declared.declarations.Axioms.TheVariants.{Free, Comm}
use Rattle.fvn_terms.specs.declared.declarations.Declarations.{Declarations}
use Rattle.fvn_terms.specs.Signature.{axioms}
use Rattle.fvn_terms.specs.Unifiers.{Problem}
use Rattle.fvn_forms.specs.Flat.{FlatTerm}
use Rattle.fvn_forms.specs.Canon.{canon}
use Rattle.fvn_terms.specs.Equality.{identity}
use Rattle.fvn_combine_nodes.specs.Table.{NodeTable, IsTableOf, IsOver, term_at}
use Rattle.fvn_combine_nodes.specs.declared.table.Node.{Node}
use Rattle.fvn_combine_nodes.specs.declared.table.Node.TheVariants.{Var, App}
use Rattle.fvn_purify.specs.Theories.{IsAbstracted, IsSharedVariable}
use Rattle.fvn_purify.specs.declared.classes.Places.{Places}
use Rattle.fvn_purify.specs.declared.classes.Classes.{Classes}

-- the list has just the members with the property, each once
pub record IsEach {A : Type 0} (Has : A → Type 0) (list : List A) : Type 0 where
  pub all : (x : A) → Contains list x ↔ Has x
  pub once : AllPairs ◌≢◌ list

-- x in the one list and y in the other stand at place k
abbrev pub StandBeside : {A B : Type 0} → List A → List B → ℕ → A → B → Type 0
StandBeside xs ys k x y = (slice_get xs k ≡ Some x) × (slice_get ys k ≡ Some y)

-- whether an operator with an identity heads the node
abbrev pub may_collapse : Declarations → Option Node → Bool
may_collapse d None = false
may_collapse d (Some (Var x)) = false
may_collapse d (Some (App f ks)) = is_some (identity (axioms d f))

-- two nodes, the lower first, that one commutative operator heads
pub record ArePair (d : Declarations) (t : NodeTable) (p : ℕ × ℕ) : Type 0 where
  pub operator : OpId
  pub commutative : axioms d operator ≡ Comm
  pub left : List ℕ
  pub right : List ℕ
  pub left_is : IsOver t.nodes p.0 operator left
  pub right_is : IsOver t.nodes p.1 operator right
  pub order : p.0 < p.1

-- the operator has axioms and heads a node
abbrev pub HasAxioms : Declarations → NodeTable → OpId → Type 0
HasAxioms d t f = (axioms d f ≢ Free) × ((i : ℕ) × (ks : List ℕ) × IsOver t.nodes i f ks)

-- the flat form of node i
abbrev pub form_at : Declarations → NodeTable → ℕ → FlatTerm
form_at d t i = canon d (term_at t.nodes i)

-- what splits speak of: the table, the operators with axioms, and the places of parts and pairs
pub record Outline : Type 0 where
  pub table : NodeTable
  pub ops : List OpId
  pub places : Places

-- what splits of these classes speak of
abbrev pub outline : Classes → Outline
outline c = record { table = c.table; ops = c.ops; places = c.places }

module _ (d : Declarations) where
  -- these are the places of parts and pairs in the table
  pub record ArePlaces (t : NodeTable) (places : Places) : Type 0 where
    -- the parts are the abstracted nodes and then the shared variables
    pub abstracted : List ℕ
    pub shared : List ℕ
    pub each_abstracted : IsEach (IsAbstracted d t) abstracted
    pub each_shared : IsEach (IsSharedVariable d t) shared
    pub parts : places.parts ≡ abstracted ++ shared
    -- those that have a head are the ones that may collapse, and then the shared variables
    pub headed : places.headed ≡ filter (λ i. may_collapse d (slice_get t.nodes i)) abstracted ++ shared
    pub pairs : IsEach (ArePair d t) places.pairs

  -- parts, pairs and operators with axioms are those of the table
  pub record IsOutline (c : Outline) : Type 0 where
    pub places : ArePlaces c.table c.places
    pub ops : IsEach (HasAxioms d c.table) c.ops

  -- the table is that of the problem, and parts and pairs stand there as flat forms too
  pub record AreClassesOf (problem : Problem) (c : Classes) : Type 0 where
    pub table : IsTableOf d problem c.table
    pub are : IsOutline (outline c)
    pub parts : c.parts ≡ map (form_at d c.table) c.places.parts
    pub pairs : c.pairs ≡ map (λ p. (form_at d c.table p.0, form_at d c.table p.1)) c.places.pairs
