-- How the nodes of a table are put into classes.
use Rattle.std.specs.Prelude.{◌≡◌, ◌⊎◌, ℕ, List, [], ◌∷◌, map, All}
use Rattle.fvn_terms.specs.declared.plain.OpId.{OpId}
use Rattle.fvn_terms.specs.declared.declarations.Axioms.TheVariants.{Free, Comm}
use Rattle.fvn_terms.specs.declared.declarations.Declarations.{Declarations}
use Rattle.fvn_terms.specs.Signature.{axioms}
use Rattle.fvn_flat.specs.Partitions.{HasNoIdentity}
use Rattle.fvn_combine_nodes.specs.Table.{NodeTable, IsOver}

-- the nodes lie place by place in one class
abbrev pub AreTogether : (ℕ → ℕ) → List ℕ → List ℕ → Type 0
AreTogether class ks ls = map class ks ≡ map class ls

-- a and b lie in one class with v and w: place by place, or crosswise
abbrev pub MeetEitherWay : (ℕ → ℕ) → (a b v w : ℕ) → Type 0
MeetEitherWay class a b v w = ((class a ≡ class v) × (class b ≡ class w)) ⊎ ((class a ≡ class w) × (class b ≡ class v))

-- where these are two nodes and two nodes, they meet, or it is undecided which way
abbrev pub MeetInPairs : (ℕ → ℕ → Type 0) → List ℕ → List ℕ → (ℕ → ℕ) → Type 0
MeetInPairs Undecided ks ls class = (a b v w : ℕ) → ks ≡ a ∷ b ∷ [] → ls ≡ v ∷ w ∷ [] → MeetEitherWay class a b v w ⊎ Undecided a v

module _ (d : Declarations) (Undecided : ℕ → ℕ → Type 0) (class : ℕ → ℕ) where
  -- what is asked of two members of one class, f over ks and g over ls
  pub record AreAlike (f g : OpId) (ks ls : List ℕ) : Type 0 where
    -- where the operators have no identity, they are one
    pub one_head : HasNoIdentity (axioms d f) → HasNoIdentity (axioms d g) → f ≡ g
    -- where this is free, the arguments are in one class place by place
    pub free : axioms d f ≡ Free → f ≡ g → AreTogether class ks ls
    -- where it is commutative and not associative, they are so place by place or crosswise, or that is undecided
    pub commutative : axioms d f ≡ Comm → f ≡ g → MeetInPairs Undecided ks ls class

  -- what is asked of nodes i and j, which are f over ks and g over ls
  pub record FitTogether (i j : ℕ) (f g : OpId) (ks ls : List ℕ) : Type 0 where
    -- one operator over arguments in one class, place by place, makes one class
    pub congruent : f ≡ g → AreTogether class ks ls → class i ≡ class j
    pub alike : class i ≡ class j → AreAlike f g ks ls

  -- the conditions of partitions, but that it may be left undecided which way commutative nodes of one class meet
  pub record IsPartitionBut (t : NodeTable) : Type 0 where
    -- both sides of each pair are in one class
    pub sides : All (λ p. class p.0 ≡ class p.1) t.sides
    pub nodes : (i j : ℕ) (f g : OpId) (ks ls : List ℕ) → IsOver t.nodes i f ks → IsOver t.nodes j g ls → FitTogether i j f g ks ls

-- the classes are those of a partition
abbrev pub IsNodePartition : Declarations → NodeTable → (ℕ → ℕ) → Type 0
IsNodePartition d t class = IsPartitionBut d (λ a v. ⊥) class t
