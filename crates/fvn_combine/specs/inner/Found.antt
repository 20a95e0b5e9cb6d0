-- What is found when states are looked at and choices are gone through.
use Rattle.std.specs.Prelude.{◌≡◌, ◌≢◌, ◌⊎◌, ◌↔◌, ℕ, ◌*◌, ◌<◌, ◌≤◌, Bool, true, false, List, [], ◌∷◌, ◌++◌, length, Contains, All, Option, Result, Ok, Err}
use Rattle.fvn_base.specs.declared.memory.NoMemory.{NoMemory}
use Rattle.fvn_terms.specs.Substitution.{Substitution}
use Rattle.fvn_flat.specs.Solving.{IsBasisCause, IsTooLarge}
use Rattle.fvn_combine_nodes.specs.States.{Admits, IsOpen}
use Rattle.fvn_combine_tree.specs.Trees.{weight, AreMet, AreKeptApart}
use Rattle.fvn_combine_nodes.specs.Unifiers.{kernel}
use Rattle.fvn_combine_loose.specs.Loose.{AreParted}
use Rattle.fvn_combine_loose.specs.Laws.{AreVariables}
use Rattle.fvn_combine_nodes.specs.declared.state.State.{State}
use Rattle.fvn_acunify_product.specs.Tags.{tags_left}
use Rattle.fvn_combine_drawing.specs.OnKinds.{IsGivenOnKinds}
use Rattle.fvn_combine_drawing.specs.declared.drawing.Drawn.{Drawn}
use Rattle.fvn_combine_drawing.specs.declared.drawing.Drawn.TheVariants.{Nothing as NoneDrawn, TooLarge, Unifier}
use Rattle.fvn_combine.specs.Tasks.{Combining, IsWanted, HoldsFor}
use Rattle.fvn_combine.specs.Advancing.{IsCovered}
use Rattle.fvn_combine.specs.Leaves.{IsOpened, IsCoveredLater, IsCoveredToCome}
use Rattle.fvn_combine.specs.Search.{IsEnd, IsRefusedAt, HasNoQuestion, HasNoChoiceAt, IsAdmitted, IsOpenedAt, IsLeft}
use Rattle.fvn_combine.specs.Work.{most_tags, most_numbers, leaf_left, left_by}
use Rattle.fvn_combine.specs.declared.opened.Opened.{Opened}
use Rattle.fvn_combine.specs.declared.opened.Leaf.{Leaf}
use Rattle.fvn_combine.specs.declared.stepping.Step.{Step}
use Rattle.fvn_combine.specs.declared.stepping.Step.TheVariants.{Over as NoneLeft, More, End}
use Rattle.fvn_combine.specs.declared.stepping.Found.{Found}
use Rattle.fvn_combine.specs.declared.stepping.Found.TheVariants.{Nothing, Ends, Given}
use Rattle.fvn_combine.specs.declared.looking.Looked.{Looked}
use Rattle.fvn_combine.specs.declared.looking.Looked.TheVariants.{Over, Open, Together, Apart, Parted, PartedAll, Passed, Refused, Leaf as OnLeaf}

module _ (k : Combining) (Before After : Substitution → Type 0) where
  -- nothing, where nothing was to come; bindings that are too large, with all still to come; or a unifier that covers what is no longer to come
  abbrev pub IsDrawnFrom : Drawn → Type 0
  IsDrawnFrom NoneDrawn = (u : Substitution) → Before u → ⊥
  IsDrawnFrom (TooLarge list) = IsTooLarge k.declarations k.given k.size list.bindings × ((u : Substitution) → Before u → After u)
  IsDrawnFrom (Unifier g) = IsGivenOnKinds k.declarations k.given k.first k.size g × ((u : Substitution) → Before u → IsCovered k g u ⊎ After u)

  -- so it is, and at want of memory all is still to come
  abbrev pub AreDrawnFrom : Result Drawn NoMemory → Type 0
  AreDrawnFrom (Ok r) = IsDrawnFrom r
  AreDrawnFrom (Err e) = (u : Substitution) → Before u → After u

-- where a unifier is given less is left than before, and where there is none no more
abbrev pub LeavesLess : ℕ → ℕ → Drawn → Type 0
LeavesLess before after NoneDrawn = after ≤ before
LeavesLess before after (TooLarge list) = Unit {0}
LeavesLess before after (Unifier g) = after < before

-- where a unifier is found less is left than before
abbrev pub IsLessLeft : ℕ → ℕ → Found → Type 0
IsLessLeft before after Nothing = Unit {0}
IsLessLeft before after (Ends e) = Unit {0}
IsLessLeft before after (Given g) = after < before

-- two open leaves are the same but for the current tags
pub record IsSameButCurrent (before after : Opened) : Type 0 where
  pub reading : after.reading ≡ before.reading
  pub labels : after.labels ≡ before.labels
  pub bases : after.bases ≡ before.bases
  pub shared : after.shared ≡ before.shared
  pub tags : after.tags ≡ before.tags
  pub loose : after.loose ≡ before.loose

module _ (k : Combining) (s : State) (before after : Opened) where
  -- the next tags are the current ones; where there are none, all is as it was
  abbrev pub IsTurned : Bool → Type 0
  IsTurned false = (after ≡ before) × ((u : Substitution) → IsCoveredLater k s before u → ⊥)
  IsTurned true =
      IsOpened k s after × (tags_left after.tags < tags_left before.tags) × (after.loose ≡ before.loose)
      × ((u : Substitution) → AreVariables k.declarations k.table before.loose u → IsCoveredLater k s before u → IsCoveredToCome k s after u)
      × ((u : Substitution) → IsCoveredToCome k s after u → IsCoveredLater k s before u)
      × (leaf_left k after ≤ leaf_left k before)

module _ (k : Combining) where
  -- the state admits the partition of u, which is asked for
  abbrev pub IsAdmittedBy : State → Substitution → Type 0
  IsAdmittedBy s u = IsWanted k u × Admits s (kernel k.declarations u k.table.nodes)

  -- more general unifiers are enough, and a loose class parts the nodes
  pub record MayPart (s : State) (i j : ℕ) : Type 0 where
    pub enough : k.general ≡ true
    pub parted : AreParted k.declarations k.table s k.sorted i j

  -- so it is of two nodes of which it is open whether they are in one class
  abbrev pub MayPartOpen : State → ℕ × ℕ → Type 0
  MayPartOpen s p = MayPart s p.0 p.1 × IsOpen s p.0 p.1

  -- the pairs are of nodes, of some it is open in the state whether they are in one class, and for each unifier that it admits and that is
  -- asked for one stands, which it admits too, under which the nodes of each pair are in two classes
  pub record PartUnderSome (s : State) (pairs : List (ℕ × ℕ)) : Type 0 where
    pub within : All (λ p. (p.0 < length k.table.nodes) × (p.1 < length k.table.nodes)) pairs
    pub some_open : (i : ℕ) × (j : ℕ) × Contains pairs (i, j) × IsOpen s i j
    pub parted : (u : Substitution) → IsAdmittedBy s u
        → HoldsFor k (λ v. Admits s (kernel k.declarations v k.table.nodes) × AreKeptApart pairs (kernel k.declarations v k.table.nodes)) u

  -- the pairs are of nodes, of some it is open in the state whether they are in one class, and they are so under each unifier
  -- that it admits and that is asked for
  pub record MeetUnderAll (s : State) (pairs : List (ℕ × ℕ)) : Type 0 where
    pub within : All (λ p. (p.0 < length k.table.nodes) × (p.1 < length k.table.nodes)) pairs
    pub some_open : (i : ℕ) × (j : ℕ) × Contains pairs (i, j) × IsOpen s i j
    pub met : (u : Substitution) → IsAdmittedBy s u → AreMet pairs (kernel k.declarations u k.table.nodes)

  -- A question is open in the state; nodes are in one class, or two of which it is open in two, under each unifier that it
  -- admits and that is asked for; or in two under one that it admits too, and that stands for this one, or those of each pair; it admits none of
  -- these; none is open, and a sum system of the problem under its partition is refused; or it is a leaf, which is opened, and of
  -- each of these one that stands for it is to come there.
  abbrev pub IsLookedAt : State → Looked → Type 0
  IsLookedAt s Over = ⊥
  IsLookedAt s (Open i j) = (i < length k.table.nodes) × (j < length k.table.nodes) × IsOpen s i j
  IsLookedAt s (Together pairs) = MeetUnderAll s pairs.items
  IsLookedAt s (Apart i j) =
      (i < length k.table.nodes) × (j < length k.table.nodes) × IsOpen s i j
      × ((u : Substitution) → IsAdmittedBy s u → kernel k.declarations u k.table.nodes i ≢ kernel k.declarations u k.table.nodes j)
  IsLookedAt s (Parted i j) =
      (i < length k.table.nodes) × (j < length k.table.nodes) × IsOpen s i j
      × ((u : Substitution) → IsAdmittedBy s u
      → HoldsFor k (λ v. Admits s (kernel k.declarations v k.table.nodes) × (kernel k.declarations v k.table.nodes i ≢ kernel k.declarations v k.table.nodes j)) u)
  IsLookedAt s (PartedAll pairs) = PartUnderSome s pairs.items
  IsLookedAt s Passed = (u : Substitution) → IsAdmittedBy s u → ⊥
  IsLookedAt s (Refused f system) = IsBasisCause k.declarations k.given f system × IsRefusedAt k s f system
  IsLookedAt s (OnLeaf o) =
      IsOpened k s o
      × ((u : Substitution) → IsAdmittedBy s u → HoldsFor k (λ v. Admits s (kernel k.declarations v k.table.nodes) × IsCoveredToCome k s o v) u)
      × (leaf_left k o ≤ most_tags k * most_numbers k)

  -- this is so of the last state
  pub record IsLookedAtLast (states : List State) (r : Looked) : Type 0 where
    pub below : List State
    pub last : State
    pub is : states ≡ below ++ last ∷ []
    pub looked : IsLookedAt last r

  -- no state is left, or the last one is looked at
  abbrev pub IsLooked : List State → Looked → Type 0
  IsLooked states Over = states ≡ []
  IsLooked states (Open i j) = IsLookedAtLast states (Open i j)
  IsLooked states (Together pairs) = IsLookedAtLast states (Together pairs)
  IsLooked states (Apart i j) = IsLookedAtLast states (Apart i j)
  IsLooked states (Parted i j) = IsLookedAtLast states (Parted i j)
  IsLooked states (PartedAll pairs) = IsLookedAtLast states (PartedAll pairs)
  IsLooked states Passed = IsLookedAtLast states Passed
  IsLooked states (Refused f system) = IsLookedAtLast states (Refused f system)
  IsLooked states (OnLeaf o) = IsLookedAtLast states (OnLeaf o)

module _ (k : Combining) where
  -- u, which is asked for, or one that stands for it, is to come in these states, or at the leaf that is open
  abbrev pub IsAhead : List State → Option Leaf → Substitution → Type 0
  IsAhead states leaf u = IsWanted k u × HoldsFor k (IsLeft k states leaf) u

  module _ (states : List State) (leaf : Option Leaf) (states_after : List State) (leaf_after : Option Leaf) where
    -- no state is left; or the tree falls, and of what is asked for just that is to come for which one stands that the states admit; or the
    -- search ends here, and all is as it was
    abbrev pub IsStep : Step → Type 0
    IsStep NoneLeft = (states ≡ []) × (states_after ≡ states) × (leaf_after ≡ leaf)
    IsStep More =
        (weight states_after < weight states) × IsOpenedAt k leaf_after
        × ((u : Substitution) → IsWanted k u → HoldsFor k (IsAdmitted k states) u ↔ HoldsFor k (IsLeft k states_after leaf_after) u)
        × (left_by k states_after leaf_after ≤ left_by k states leaf)
    IsStep (End e) = IsEnd k e × HasNoQuestion k states e × (states_after ≡ states) × (leaf_after ≡ leaf)

    -- all that was to come is so, and no more
    abbrev pub IsAheadAsBefore : Type 0
    IsAheadAsBefore = (u : Substitution) → IsAhead states leaf u ↔ IsAhead states_after leaf_after u

    -- nothing was to come; or the search ends here; or a unifier covers what is no longer to come, or one that stands for it
    abbrev pub IsFound : Found → Type 0
    IsFound Nothing = ((u : Substitution) → IsAhead states leaf u → ⊥) × IsAheadAsBefore
    IsFound (Ends e) = IsEnd k e × HasNoQuestion k states_after e × HasNoChoiceAt k leaf_after e × IsAheadAsBefore
    IsFound (Given g) = IsGivenOnKinds k.declarations k.given k.first k.size g × ((u : Substitution) → IsAhead states leaf u → HoldsFor k (IsCovered k g) u ⊎ IsAhead states_after leaf_after u)

    -- so it is, and at want of memory all is to come as before
    abbrev pub AreFound : Result Found NoMemory → Type 0
    AreFound (Ok r) = IsFound r
    AreFound (Err e) = IsAheadAsBefore
