-- Which questions a state may be asked, and what a step does to what is decided so far.
use Rattle.std.specs.Prelude.{◌≡◌, ◌≢◌, ◌↔◌, ◌⊎◌, ℕ, suc, ◌+◌, ◌*◌, ◌-◌, ◌^◌, ◌<◌, ◌≤◌, Bool, List, [], ◌∷◌, length, map, sum_by, Option, Some, None, All, AllPairs, Any, Contains}
use Rattle.fvn_terms.specs.declared.plain.OpId.{OpId}
use Rattle.fvn_terms.specs.declared.declarations.Declarations.{Declarations}
use Rattle.fvn_terms.specs.Signature.{axioms}
use Rattle.fvn_flat.specs.Partitions.{HasNoIdentity}
use Rattle.fvn_combine_nodes.specs.Table.{NodeTable, IsOver, IsWellMade}
use Rattle.fvn_combine_nodes.specs.Classes.{IsNodePartition}
use Rattle.fvn_combine_nodes.specs.States.{Admits, IsClosed, IsOpen, class_of, open_pairs}
use Rattle.fvn_combine_nodes.specs.declared.state.State.{State}
use Rattle.fvn_purify.specs.Parts.{Outline, IsOutline}
use Rattle.fvn_purify.specs.Splits.{number_in, AreHeadsOfParts, AreWaysOfPairs}
use Rattle.fvn_purify.specs.inner.Options.{AreFirst}
use Rattle.fvn_purify.specs.Cursor.{IsAheadOf, Cursor}
use Rattle.fvn_purify.specs.declared.classes.Head.{Head}
use Rattle.fvn_purify.specs.declared.split.Split.{Split}
use Rattle.fvn_purify.specs.declared.choosing.Leaf.{Leaf}
use Rattle.fvn_purify.specs.declared.choosing.Partial.{Partial}
use Rattle.fvn_purify.specs.declared.choosing.Partial.TheVariants.{Asking, Choosing}
use Rattle.fvn_purify.specs.declared.stepping.Step.{Step}
use Rattle.fvn_purify.specs.declared.stepping.Step.TheVariants.{More, Whole}

-- each identity in the table is a constant without axioms
abbrev pub HasUnits : Declarations → NodeTable → Type 0
HasUnits d t = (p : OpId × ℕ) → Contains t.units p → (e : OpId) × IsOver t.nodes p.1 e [] × HasNoIdentity (axioms d e)

-- parts, nodes with a head and pairs are nodes of the table
pub record ArePlacesWithin (c : Outline) : Type 0 where
  pub parts : All (λ i. i < length c.table.nodes) c.places.parts
  pub headed : All (λ i. i < length c.table.nodes) c.places.headed
  pub pairs : All (λ p. (p.0 < length c.table.nodes) × (p.1 < length c.table.nodes)) c.places.pairs

-- what is left of a state, as what is decided so far
abbrev pub asking : Option State → List Partial
asking None = []
asking (Some s) = Asking s ∷ []

-- a state with these heads and ways
abbrev pub chosen : State → List Head → List Bool → Partial
chosen s heads swaps = Choosing (record { state = s; heads = heads; swaps = swaps })

-- the split that a leaf with all heads and ways is
abbrev pub split_of : Outline → Leaf → Split
split_of c l = record {
  class_of = map (number_in (class_of l.state) c.places.parts) c.places.parts;
  heads = l.heads;
  swaps = l.swaps;
}

module _ (c : Outline) (s : State) where
  -- two parts, a part with a head and an identity, or the first arguments of a pair of one class
  abbrev pub IsSplitQuestion : (x y : ℕ) → Type 0
  IsSplitQuestion x y =
      (Contains c.places.parts x × Contains c.places.parts y)
      ⊎ ((Contains c.places.headed x × ((p : OpId × ℕ) × Contains c.table.units p × (p.1 ≡ y)))
      ⊎ ((p : ℕ × ℕ) × Contains c.places.pairs p × (class_of s p.0 ≡ class_of s p.1) × AreFirst c.table p x y))

  -- no question is open
  abbrev pub IsDecided : Type 0
  IsDecided = (x y : ℕ) → IsSplitQuestion x y → IsOpen s x y → ⊥

  -- an open question, or none where none is open
  abbrev pub IsNextQuestion : Option (ℕ × ℕ) → Type 0
  IsNextQuestion None = IsDecided
  IsNextQuestion (Some p) = IsSplitQuestion p.0 p.1 × IsOpen s p.0 p.1

module _ (d : Declarations) (c : Outline) where
  -- what steps need: parts, pairs and operators are those of the table, and identities are constants
  pub record AreStepped : Type 0 where
    pub made : IsWellMade c.table
    pub within : ArePlacesWithin c
    pub units : HasUnits d c.table
    pub are : IsOutline d c

  -- the options for one more head or way: they fit the state, and whatever fits classes that the state admits is one of them
  pub record AreOptions {A : Type 0} (Fits : (ℕ → ℕ) → A → Type 0) (s : State) (options : List A) : Type 0 where
    pub fit : All (Fits (class_of s)) options
    pub once : AllPairs ◌≢◌ options
    pub all :
        (class : ℕ → ℕ) → IsNodePartition d c.table class → Admits s class →
        (x : A) → Fits class x → Contains options x

  -- heads and ways fit the classes of a state without open questions
  pub record IsLeaf (l : Leaf) : Type 0 where
    pub closed : IsClosed d c.table l.state
    pub decided : IsDecided c l.state
    pub heads : AreHeadsOfParts d c (class_of l.state) c.places.headed l.heads
    pub few_heads : length l.heads ≤ length c.places.headed
    pub swaps : AreWaysOfPairs d c (class_of l.state) c.places.pairs l.swaps
    pub few_swaps : length l.swaps ≤ length c.places.pairs

  -- what is decided so far fits together
  abbrev pub IsSound : Partial → Type 0
  IsSound (Asking s) = IsClosed d c.table s
  IsSound (Choosing l) = IsLeaf l

  -- what a choice among heads or ways makes of a weight falls by this factor
  abbrev pub base : ℕ
  base = 3 + length c.ops

  -- the number of heads and ways of a split
  abbrev pub places_count : ℕ
  places_count = length c.places.headed + length c.places.pairs

  -- by this falls what a step is done to
  abbrev pub weight : Partial → ℕ
  weight (Asking s) = 3 ^ open_pairs s * base ^ suc places_count
  weight (Choosing l) = base ^ (places_count - (length l.heads + length l.swaps))

  -- the same for several
  abbrev pub weights : List Partial → ℕ
  weights partials = sum_by weight partials

  -- no split is ahead of both
  abbrev pub ShareNoSplit : Partial → Partial → Type 0
  ShareNoSplit p q = (split : Split) → IsAheadOf d c p split → IsAheadOf d c q split → ⊥

  -- these are ahead of one of the partials just where they are ahead of this one
  pub record IsExpansion (before : Partial) (after : List Partial) : Type 0 where
    pub same : (split : Split) → IsAheadOf d c before split ↔ Any (λ p. IsAheadOf d c p split) after
    pub apart : AllPairs ShareNoSplit after
    pub sound : All IsSound after
    pub falls : weights after < weight before

  -- a step gives what is ahead in parts, or the one split that is
  abbrev pub IsStepOf : Partial → Step → Type 0
  IsStepOf before (More after) = IsExpansion before after
  IsStepOf before (Whole given) = (split : Split) → IsAheadOf d c before split ↔ (split ≡ given)

-- what is kept of a cursor
pub record IsKept (cursor : Cursor) : Type 0 where
  pub fit : AreStepped cursor.declarations cursor.outline
  pub sound : All (IsSound cursor.declarations cursor.outline) cursor.partials
  pub apart : AllPairs (ShareNoSplit cursor.declarations cursor.outline) cursor.partials
