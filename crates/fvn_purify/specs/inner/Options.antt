-- Which heads are found for the class of a node.
use Rattle.std.specs.Prelude.{◌≡◌, ◌≢◌, ◌⊎◌, ℕ, Bool, true, false, not, nat_eq, List, [], ◌∷◌, map, slice_get, Option, Some, None, Contains}
use Rattle.fvn_terms.specs.declared.plain.OpId.{OpId}
use Rattle.fvn_terms.specs.declared.declarations.Declarations.{Declarations}
use Rattle.fvn_terms.specs.Signature.{axioms}
use Rattle.fvn_flat.specs.Partitions.{HasNoIdentity}
use Rattle.fvn_combine_nodes.specs.Table.{NodeTable, IsOver}
use Rattle.fvn_purify.specs.Parts.{Outline}
use Rattle.fvn_purify.specs.Heads.{operator_head}
use Rattle.fvn_purify.specs.declared.classes.Head.{Head}
use Rattle.fvn_purify.specs.declared.classes.Head.TheVariants.{Free, Identity}

-- node x is the first argument of the pair's left node, and y of its right one
abbrev pub AreFirst : NodeTable → ℕ × ℕ → (x y : ℕ) → Type 0
AreFirst t p x y =
    (f : OpId) × (g : OpId) × (ks : List ℕ) × (ls : List ℕ) ×
    IsOver t.nodes p.0 f (x ∷ ks) ×
    IsOver t.nodes p.1 g (y ∷ ls)

-- the head that one of the first nodes has, if it is in the class of node i
abbrev pub IsEarlier : (ℕ → ℕ) → List ℕ → List Head → ℕ → Head → Type 0
IsEarlier class nodes heads i h =
    (k : ℕ) × (j : ℕ) ×
    (slice_get nodes k ≡ Some j) ×
    (slice_get heads k ≡ Some h) ×
    (class j ≡ class i)

-- the constant e, which is an identity, is in the class of node i
abbrev pub IsUnitIn : NodeTable → (ℕ → ℕ) → ℕ → OpId → Type 0
IsUnitIn t class i e = (p : OpId × ℕ) × Contains t.units p × (class i ≡ class p.1) × IsOver t.nodes p.1 e []

-- node j is in the class of node i and headed by an operator without an identity
abbrev pub IsSolidAt : Declarations → NodeTable → (ℕ → ℕ) → (i j : ℕ) → Head → Type 0
IsSolidAt d t class i j h =
    (f : OpId) × (ks : List ℕ) ×
    IsOver t.nodes j f ks ×
    HasNoIdentity (axioms d f) ×
    (class j ≡ class i) ×
    (h ≡ operator_head d f)

module _ (d : Declarations) (c : Outline) (class : ℕ → ℕ) where
  -- nothing forces the head of node i
  pub record IsUnforced (heads : List Head) (i : ℕ) : Type 0 where
    pub earlier : (h : Head) → IsEarlier class c.places.headed heads i h → ⊥
    pub unit : (e : OpId) → IsUnitIn c.table class i e → ⊥
    pub solid : (j : ℕ) (h : Head) → IsSolidAt d c.table class i j h → ⊥

  -- what forces it: an earlier head of the class, an identity, or a member
  pub data Forces (heads : List Head) (i : ℕ) : Head → Type 0 where
    by_earlier : {h : Head} → IsEarlier class c.places.headed heads i h → Forces heads i h
    by_unit :
        {h : Head} (e : OpId) → h ≡ Identity e →
        ((g : Head) → IsEarlier class c.places.headed heads i g → ⊥) →
        IsUnitIn c.table class i e →
        Forces heads i h
    by_solid :
        {h : Head} (j : ℕ) →
        ((g : Head) → IsEarlier class c.places.headed heads i g → ⊥) →
        ((e : OpId) → IsUnitIn c.table class i e → ⊥) →
        IsSolidAt d c.table class i j h →
        Forces heads i h

  -- the head that is forced, or none where nothing forces one
  abbrev pub IsForcedHead : List Head → ℕ → Option Head → Type 0
  IsForcedHead heads i None = IsUnforced heads i
  IsForcedHead heads i (Some h) = Forces heads i h

  -- the head that is forced, or those of all theories
  abbrev pub IsHeadOptions : List Head → ℕ → List Head → Type 0
  IsHeadOptions heads i options =
      ((h : Head) × Forces heads i h × (options ≡ h ∷ []))
      ⊎ (IsUnforced heads i × (options ≡ Free ∷ map (operator_head d) c.ops))

-- the way in which the pair can meet, if it is in one class
abbrev pub IsForcedWay : Outline → (ℕ → ℕ) → ℕ × ℕ → Option Bool → Type 0
IsForcedWay c class p None = (class p.0 ≢ class p.1) ⊎ ((x y : ℕ) → AreFirst c.table p x y → ⊥)
IsForcedWay c class p (Some crossed) =
    (class p.0 ≡ class p.1)
    × ((x : ℕ) × (y : ℕ) × AreFirst c.table p x y × (crossed ≡ not (nat_eq (class x) (class y))))

-- the way that is forced, or both
abbrev pub IsWayOptions : Outline → (ℕ → ℕ) → ℕ × ℕ → List Bool → Type 0
IsWayOptions c class p options =
    ((crossed : Bool) × IsForcedWay c class p (Some crossed) × (options ≡ crossed ∷ []))
    ⊎ (IsForcedWay c class p None × (options ≡ false ∷ true ∷ []))
