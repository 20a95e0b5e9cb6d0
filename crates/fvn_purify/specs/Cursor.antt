-- A cursor over splits, and which of them are still to come.
use Rattle.std.specs.Prelude.{◌≡◌, ◌≢◌, ◌↔◌, ℕ, Bool, List, [], ◌++◌, Option, Some, None, Any}
use Rattle.fvn_terms.specs.declared.declarations.Declarations.{Declarations}
use Rattle.fvn_combine_nodes.specs.Classes.{IsNodePartition}
use Rattle.fvn_combine_nodes.specs.States.{Admits}
use Rattle.fvn_combine_nodes.specs.declared.state.State.{State}
use Rattle.fvn_purify.specs.Parts.{Outline}
use Rattle.fvn_purify.specs.Splits.{IsSplitBy}
use Rattle.fvn_purify.specs.declared.classes.Head.{Head}
use Rattle.fvn_purify.specs.declared.split.Split.{Split}
use Rattle.fvn_purify.specs.declared.choosing.Partial.{Partial}
use Rattle.fvn_purify.specs.declared.choosing.Partial.TheVariants.{Asking, Choosing}

-- the list begins with these
abbrev pub BeginsWith : {A : Type 0} → List A → List A → Type 0
BeginsWith {A} front list = (rest : List A) × (list ≡ front ++ rest)

module _ (d : Declarations) (c : Outline) where
  -- the split tells what the classes of a partition are that has what the state has, and its heads and ways begin with these
  pub record IsAhead (s : State) (heads : List Head) (swaps : List Bool) (split : Split) : Type 0 where
    pub class : ℕ → ℕ
    pub partition : IsNodePartition d c.table class
    pub admits : Admits s class
    pub split_by : IsSplitBy d c class split
    pub heads_begin : BeginsWith heads split.heads
    pub swaps_begin : BeginsWith swaps split.swaps

  -- the split can be made from what is decided so far
  abbrev pub IsAheadOf : Partial → Split → Type 0
  IsAheadOf (Asking s) split = IsAhead s [] [] split
  IsAheadOf (Choosing l) split = IsAhead l.state l.heads l.swaps split

-- the splits of an outline in a signature, and what is decided of those that are still to come
pub record Cursor : Type 0 where
  pub declarations : Declarations
  pub outline : Outline
  pub partials : List Partial

-- the split is still to come
abbrev pub Pending : Cursor → Split → Type 0
Pending cursor split = Any (λ p. IsAheadOf cursor.declarations cursor.outline p split) cursor.partials

-- the same splits are still to come
abbrev pub HasSamePending : Cursor → Cursor → Type 0
HasSamePending before after = (split : Split) → Pending after split ↔ Pending before split

-- no split is to come
abbrev pub IsAtEnd : Cursor → Type 0
IsAtEnd cursor = (split : Split) → Pending cursor split → ⊥

-- the split was to come and is not any more, and the others are still
pub record IsTakenFrom (before after : Cursor) (given : Split) : Type 0 where
  pub was : Pending before given
  pub others : (split : Split) → Pending after split ↔ (Pending before split × (split ≢ given))

-- the split given is taken from what was to come; where none is given, none was and none is
abbrev pub IsGivenFrom : Cursor → Cursor → Option Split → Type 0
IsGivenFrom before after None = IsAtEnd before × IsAtEnd after
IsGivenFrom before after (Some given) = IsTakenFrom before after given
