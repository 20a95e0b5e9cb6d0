-- Decision trees: states that are still to be looked at.
use Rattle.std.specs.Prelude.{◌≡◌, ◌≢◌, ℕ, ◌<◌, ◌^◌, List, [], ◌∷◌, ◌++◌, length, sum_by, All, AllPairs, Any, Contains}
use Rattle.fvn_terms.specs.declared.declarations.Declarations.{Declarations}
use Rattle.fvn_combine_nodes.specs.Table.{NodeTable}
use Rattle.fvn_combine_nodes.specs.Classes.{IsNodePartition}
use Rattle.fvn_combine_nodes.specs.States.{Admits, IsClosed, IsOpen, open_pairs}
use Rattle.fvn_combine_nodes.specs.declared.state.State.{State}

-- by this falls a tree that is asked a question, or loses a state
abbrev pub weight : List State → ℕ
weight states = sum_by (λ s. 3 ^ open_pairs s) states

-- some state of the tree has no more than the classes have
abbrev pub IsToCome : List State → (ℕ → ℕ) → Type 0
IsToCome states class = Any (λ s. Admits s class) states

-- each state of the tree is closed
abbrev pub AreClosed : Declarations → NodeTable → List State → Type 0
AreClosed d t states = All (IsClosed d t) states

-- two nodes are apart in all that s admits, and together in all that r admits
pub record IsPartedFrom (s r : State) : Type 0 where
  pub first : ℕ
  pub second : ℕ
  pub first_within : first < length s.names
  pub second_within : second < length s.names
  pub apart : (class : ℕ → ℕ) → Admits s class → class first ≢ class second
  pub together : (class : ℕ → ℕ) → Admits r class → class first ≡ class second

-- of two states the earlier keeps two nodes apart that the later one, which is looked at before it, has together
abbrev pub AreInOrder : List State → Type 0
AreInOrder [] = Unit {0}
AreInOrder (s ∷ states) = All (IsPartedFrom s) states × AreInOrder states

-- nodes i and j are open in the last state
pub record IsOpenAtTop (states : List State) (i j : ℕ) : Type 0 where
  pub below : List State
  pub top : State
  pub is : states ≡ below ++ top ∷ []
  pub open_there : IsOpen top i j

-- the nodes of one of the pairs are open in the last state
abbrev pub SomeOpenAtTop : List State → List (ℕ × ℕ) → Type 0
SomeOpenAtTop states pairs = (i : ℕ) × (j : ℕ) × Contains pairs (i, j) × IsOpenAtTop states i j

-- the nodes of each pair are in one class
abbrev pub AreMet : List (ℕ × ℕ) → (ℕ → ℕ) → Type 0
AreMet pairs class = All (λ p. class p.0 ≡ class p.1) pairs

-- the nodes of each pair are in two classes
abbrev pub AreKeptApart : List (ℕ × ℕ) → (ℕ → ℕ) → Type 0
AreKeptApart pairs class = All (λ p. class p.0 ≢ class p.1) pairs

-- the last state made way for what is left of it; the others stay
pub record IsAsked (d : Declarations) (t : NodeTable) (before after : List State) : Type 0 where
  pub below : List State
  pub top : State
  pub answers : List State
  pub was : before ≡ below ++ top ∷ []
  pub is : after ≡ below ++ answers
  -- each answer has what the last state had
  pub kept : (class : ℕ → ℕ) → IsToCome answers class → Admits top class
  -- each partition that the last state admits is admitted by one answer, and by one alone
  pub all : (class : ℕ → ℕ) → IsNodePartition d t class → Admits top class → IsToCome answers class
  pub one : (class : ℕ → ℕ) → AllPairs (λ s r. Admits s class → Admits r class → ⊥) answers

-- the last state made way for what is left of it where a fact holds of the classes; the others stay
pub record IsTakenOn (d : Declarations) (t : NodeTable) (Holds : (ℕ → ℕ) → Type 0) (before after : List State) : Type 0 where
  pub below : List State
  pub top : State
  pub left : List State
  pub was : before ≡ below ++ top ∷ []
  pub is : after ≡ below ++ left
  -- what is left has what the last state had, and the fact
  pub kept : (class : ℕ → ℕ) → IsToCome left class → Admits top class
  pub holds : (class : ℕ → ℕ) → IsToCome left class → Holds class
  -- each partition that the last state admits is admitted by it, where the fact holds
  pub all : (class : ℕ → ℕ) → IsNodePartition d t class → Admits top class → Holds class → IsToCome left class
