-- Splits: what is told of a partition's classes.
use Rattle.std.specs.Prelude.{◌≡◌, ℕ, suc, Bool, not, nat_eq, if◌then◌else◌, List, [], ◌∷◌, map, length}
use Rattle.fvn_terms.specs.declared.plain.OpId.{OpId}
use Rattle.fvn_terms.specs.declared.declarations.Axioms.TheVariants.{Free as NoAxioms}
use Rattle.fvn_terms.specs.declared.declarations.Declarations.{Declarations}
use Rattle.fvn_terms.specs.Signature.{axioms}
use Rattle.fvn_flat.specs.Partitions.{HasNoIdentity}
use Rattle.fvn_combine_nodes.specs.Table.{NodeTable, IsOver}
use Rattle.fvn_combine_nodes.specs.Classes.{IsNodePartition}
use Rattle.fvn_purify.specs.Parts.{Outline, StandBeside}
use Rattle.fvn_purify.specs.Heads.{operator_head, IsTheory, IsUnitNode}
use Rattle.fvn_purify.specs.declared.classes.Head.{Head}
use Rattle.fvn_purify.specs.declared.classes.Head.TheVariants.{Free, Pair, Sum, Identity}
use Rattle.fvn_purify.specs.declared.split.Split.{Split}

-- the number of the class of node i: the place of the first of the parts that is in it
abbrev pub number_in : (ℕ → ℕ) → List ℕ → ℕ → ℕ
number_in class [] i = 0
number_in class (p ∷ parts) i = if nat_eq (class p) (class i) then 0 else suc (number_in class parts i)

module _ (d : Declarations) (c : Outline) (class : ℕ → ℕ) where
  -- node i is in the class of the identity e
  abbrev pub IsInUnit : ℕ → OpId → Type 0
  IsInUnit i e = (j : ℕ) × IsUnitNode c.table e j × (class i ≡ class j)

  -- node j is in the class of node i, and f, an operator without an identity, heads it
  pub record IsSolidMember (i j : ℕ) (f : OpId) : Type 0 where
    pub arguments : List ℕ
    pub is : IsOver c.table.nodes j f arguments
    pub solid : HasNoIdentity (axioms d f)
    pub same : class j ≡ class i

  -- the class of node i is that of no identity; it has the head of its members without an identity, if it has any, or that of any theory
  pub record HasTheory (i : ℕ) (h : Head) : Type 0 where
    pub no_unit : (e : OpId) → IsInUnit i e → ⊥
    pub theory : IsTheory d c.ops h
    pub solid : (j : ℕ) (f : OpId) → IsSolidMember i j f → h ≡ operator_head d f

  -- the head can be that of the class of node i
  abbrev pub CanHead : ℕ → Head → Type 0
  CanHead i Free = HasTheory i Free
  CanHead i (Pair f) = HasTheory i (Pair f)
  CanHead i (Sum f) = HasTheory i (Sum f)
  CanHead i (Identity e) = IsInUnit i e

  -- these can be the heads of the first nodes of the list, one for each class
  pub record AreHeadsOfParts (nodes : List ℕ) (heads : List Head) : Type 0 where
    pub can : (k i : ℕ) (h : Head) → StandBeside nodes heads k i h → CanHead i h
    pub one :
        (k l i j : ℕ) (h g : Head) →
        StandBeside nodes heads k i h →
        StandBeside nodes heads l j g →
        class i ≡ class j →
        h ≡ g

  -- a pair of one class is crossed just where the first arguments are in two classes
  abbrev pub IsWayOfPair : ℕ × ℕ → Bool → Type 0
  IsWayOfPair p crossed =
      (f g : OpId) (a v : ℕ) (ks ls : List ℕ) →
      IsOver c.table.nodes p.0 f (a ∷ ks) →
      IsOver c.table.nodes p.1 g (v ∷ ls) →
      class p.0 ≡ class p.1 →
      crossed ≡ not (nat_eq (class a) (class v))

  -- these can be the ways of the first pairs of the list
  abbrev pub AreWaysOfPairs : List (ℕ × ℕ) → List Bool → Type 0
  AreWaysOfPairs pairs swaps =
      (k : ℕ) (p : ℕ × ℕ) (crossed : Bool) →
      StandBeside pairs swaps k p crossed →
      IsWayOfPair p crossed

  -- the split tells what these classes are
  pub record IsSplitBy (split : Split) : Type 0 where
    pub numbers : split.class_of ≡ map (number_in class c.places.parts) c.places.parts
    pub heads : AreHeadsOfParts c.places.headed split.heads
    pub all_heads : length split.heads ≡ length c.places.headed
    pub swaps : AreWaysOfPairs c.places.pairs split.swaps
    pub all_swaps : length split.swaps ≡ length c.places.pairs

-- the split tells what the classes of a partition are
abbrev pub IsSplit : Declarations → Outline → Split → Type 0
IsSplit d c split = (class : ℕ → ℕ) × IsNodePartition d c.table class × IsSplitBy d c class split

-- f is free and heads node i
abbrev pub IsFreeOver : Declarations → NodeTable → ℕ → OpId → Type 0
IsFreeOver d t i f = (axioms d f ≡ NoAxioms) × ((ks : List ℕ) × IsOver t.nodes i f ks)

-- no two parts with one number are headed by two free operators
abbrev pub HasOneFree : Declarations → Outline → Split → Type 0
HasOneFree d c split =
    (k l i j n : ℕ) (f g : OpId) →
    StandBeside c.places.parts split.class_of k i n →
    StandBeside c.places.parts split.class_of l j n →
    IsFreeOver d c.table i f →
    IsFreeOver d c.table j g →
    f ≡ g
