-- What is left of a state when a question is answered.
use Rattle.std.specs.Prelude.{◌≡◌, ◌≢◌, ℕ, ◌<◌, Option, Some, None}
use Rattle.fvn_terms.specs.declared.declarations.Declarations.{Declarations}
use Rattle.fvn_combine_nodes.specs.Table.{NodeTable}
use Rattle.fvn_combine_nodes.specs.Classes.{IsNodePartition}
use Rattle.fvn_combine_nodes.specs.States.{Admits, IsClosed, open_pairs}
use Rattle.fvn_combine_nodes.specs.declared.state.State.{State}
use Rattle.fvn_combine_tree.specs.declared.asking.Answers.{Answers}

module _ (d : Declarations) (t : NodeTable) where
  -- every partition has what the state has; no state where there is no partition
  abbrev pub IsStart : Option State → Type 0
  IsStart None = (class : ℕ → ℕ) → IsNodePartition d t class → ⊥
  IsStart (Some s) = IsClosed d t s × ((class : ℕ → ℕ) → IsNodePartition d t class → Admits s class)

  module _ (s : State) (Holds : (ℕ → ℕ) → Type 0) where
    -- r is what is left of s where the fact holds of the classes
    pub record IsLeft (r : State) : Type 0 where
      pub closed : IsClosed d t r
      -- r has all that s has, and the fact
      pub holds : (class : ℕ → ℕ) → Admits r class → Admits s class × Holds class
      -- and nothing that not every partition with these has
      pub forced : (class : ℕ → ℕ) → IsNodePartition d t class → Admits s class → Holds class → Admits r class
      -- less is open
      pub falls : open_pairs r < open_pairs s

    -- what is left; nothing where no partition is left
    abbrev pub IsAnswer : Option State → Type 0
    IsAnswer None = (class : ℕ → ℕ) → IsNodePartition d t class → Admits s class → Holds class → ⊥
    IsAnswer (Some r) = IsLeft r

  -- the answers to the question whether nodes i and j of the state are in one class
  pub record AreAnswers (s : State) (i j : ℕ) (a : Answers) : Type 0 where
    pub same : IsAnswer s (λ class. class i ≡ class j) a.same
    pub apart : IsAnswer s (λ class. class i ≢ class j) a.apart
