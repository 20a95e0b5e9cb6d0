-- How a state begins.
use Rattle.std.specs.Prelude.{◌≡◌, ℕ, ◌<◌, List, [], ◌++◌, length, All, Contains}
use Rattle.std.specs.Option.{option_to_list}
use Rattle.fvn_combine_nodes.specs.States.{Admits, IsOpen, class_of}
use Rattle.fvn_combine_tree.specs.inner.Closing.{HasSameNodes, IsForced}
use Rattle.fvn_combine_nodes.specs.declared.state.State.{State}
use Rattle.fvn_combine_tree.specs.declared.asking.Answers.{Answers}

-- each of n nodes is in a class of its own, and nothing is kept apart
pub record IsSingles (n : ℕ) (s : State) : Type 0 where
  pub whole : length s.names ≡ n
  pub own : (i : ℕ) → i < n → class_of s i ≡ i
  pub none : s.apart ≡ []

-- the sides of each pair are joined, and nothing else is
pub record IsJoinedFrom (sides : List (ℕ × ℕ)) (before after : State) : Type 0 where
  pub nodes : HasSameNodes before after
  pub joined : (class : ℕ → ℕ) → Admits after class → All (λ p. class p.0 ≡ class p.1) sides
  pub forced : IsForced (λ class. All (λ p. class p.0 ≡ class p.1) sides) before after

-- the nodes of one of the pairs are open in the state
abbrev pub SomeOpen : State → List (ℕ × ℕ) → Type 0
SomeOpen s pairs = (i : ℕ) × (j : ℕ) × Contains pairs (i, j) × IsOpen s i j

-- the states that are left, those where the nodes are in one class at the end
abbrev pub listed : Answers → List State
listed a = option_to_list a.apart ++ option_to_list a.same
