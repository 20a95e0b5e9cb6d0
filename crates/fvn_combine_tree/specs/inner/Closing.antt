-- How a state is closed: one look at two nodes after another.
use Rattle.std.specs.Prelude.{◌≡◌, ℕ, ◌<◌, Bool, ◌||◌, length, sum, nat_eq, if◌then◌else◌, Option, Some, None}
use Rattle.fvn_terms.specs.declared.declarations.Declarations.{Declarations}
use Rattle.fvn_combine_nodes.specs.Table.{NodeTable}
use Rattle.fvn_combine_nodes.specs.Classes.{IsNodePartition}
use Rattle.fvn_combine_nodes.specs.States.{Admits, IsNaming, IsClosed, IsImpossible, class_of, is_same, is_apart}
use Rattle.fvn_combine_nodes.specs.declared.state.State.{State}
use Rattle.fvn_combine_tree.specs.declared.closing.Closing.{Closing}
use Rattle.fvn_combine_tree.specs.declared.closing.Move.{Move}
use Rattle.fvn_combine_tree.specs.declared.closing.Move.TheVariants.{Stays, Changes, Clashes}

-- the state in the making
abbrev pub state_of : Closing → State
state_of c = record { names = c.names.items; apart = c.apart.items }

-- a name, where one name is replaced
abbrev pub renamed : (from to : ℕ) → ℕ → ℕ
renamed from to n = if nat_eq n from then to else n

-- whether a is known to be in the class of v where a and b meet v and w, and b then in that of w
abbrev pub is_straight : State → (a b v w : ℕ) → Bool
is_straight s a b v w = ((is_same s a v || is_same s b w) || is_apart s a w) || is_apart s b v

-- what two moves come to
abbrev pub then_move : Move → Move → Move
then_move Stays m = m
then_move Changes Stays = Changes
then_move Changes Changes = Changes
then_move Changes Clashes = Clashes
then_move Clashes m = Clashes

-- the nodes and the pairs that are kept apart are those of the other state
pub record HasSameNodes (before after : State) : Type 0 where
  pub whole : length after.names ≡ length before.names
  pub naming : IsNaming after
  pub apart : after.apart ≡ before.apart

module _ (Holds : (ℕ → ℕ) → Type 0) where
  -- the second state has in one class what the first has, and nothing but what classes have that the first admits and of which the fact holds
  pub record IsForced (before after : State) : Type 0 where
    pub coarser : (k : ℕ) → k < length before.names → class_of after (class_of before k) ≡ class_of after k
    pub forced : (class : ℕ → ℕ) → Holds class → Admits before class → Admits after class

  -- what a move did: nothing, since all is settled; or the names fell; or no classes were found possible
  abbrev pub HasMoved : (State → Type 0) → (before after : State) → Move → Type 0
  HasMoved Settled before after Stays = (after ≡ before) × Settled before
  HasMoved Settled before after Changes = HasSameNodes before after × IsForced before after × (sum after.names < sum before.names)
  HasMoved Settled before after Clashes = HasSameNodes before after × ((class : ℕ → ℕ) → Holds class → Admits before class → ⊥)

-- what closing a state gives
abbrev pub IsClosureOf : Declarations → NodeTable → State → Option State → Type 0
IsClosureOf d t s None = IsImpossible d t s
IsClosureOf d t s (Some r) = IsClosed d t r × HasSameNodes s r × IsForced (IsNodePartition d t) s r
