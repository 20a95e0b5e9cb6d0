-- What is settled in a round of looks at pairs of nodes.
use Rattle.std.specs.Prelude.{◌≡◌, ℕ, ◌<◌, ◌≤◌, Bool, true, false, List, length, slice_index}
use Rattle.fvn_terms.specs.declared.plain.OpId.{OpId}
use Rattle.fvn_terms.specs.declared.declarations.Declarations.{Declarations}
use Rattle.fvn_combine_nodes.specs.Table.{NodeTable, IsOver}
use Rattle.fvn_combine_nodes.specs.Classes.{FitTogether, IsNodePartition}
use Rattle.fvn_combine_nodes.specs.States.{class_of, IsOpen, IsImpossible}
use Rattle.fvn_combine_tree.specs.inner.Closing.{HasSameNodes, IsForced}
use Rattle.fvn_combine_tree.specs.inner.Chains.{key_of}
use Rattle.fvn_combine_tree.specs.declared.chains.By.{By}
use Rattle.fvn_combine_nodes.specs.declared.state.State.{State}

module _ (d : Declarations) (t : NodeTable) where
  -- nodes i and j are as they are asked to be
  abbrev pub AreSettled : (i j : ℕ) → State → Type 0
  AreSettled i j s = (f g : OpId) (ks ls : List ℕ) → IsOver t.nodes i f ks → IsOver t.nodes j g ls → FitTogether d (IsOpen s) (class_of s) i j f g ks ls

  -- node i and each before it that has its key are, from node m on
  abbrev pub IsChainSettled : (keys : List ℕ) → (i m : ℕ) → State → Type 0
  IsChainSettled keys i m s = (j : ℕ) → m ≤ j → j < i → slice_index keys j ≡ slice_index keys i → AreSettled i j s

  -- each of the first m nodes and those before it that have its key are
  abbrev pub AreChainsSettled : (keys : List ℕ) → (m : ℕ) → State → Type 0
  AreChainsSettled keys m s = (i : ℕ) → i < m → IsChainSettled keys i 0 s

  -- nodes that have alike what is said are
  abbrev pub IsSettledBy : By → State → Type 0
  IsSettledBy by s = (i j : ℕ) (f g : OpId) (ks ls : List ℕ) → j < i → IsOver t.nodes i f ks → IsOver t.nodes j g ls → key_of s.names by j g ls ≡ key_of s.names by i f ks → AreSettled i j s

  -- all are
  abbrev pub IsAllSettled : State → Type 0
  IsAllSettled s = (i : ℕ) → i < length t.nodes → (j : ℕ) → j < i → AreSettled i j s

  -- all is settled, and nothing is joined but what every partition has in one class; or no partition has what the state has
  abbrev pub IsSettledFrom : (before after : State) → Bool → Type 0
  IsSettledFrom before after true = HasSameNodes before after × IsForced (IsNodePartition d t) before after × IsAllSettled after
  IsSettledFrom before after false = IsImpossible d t before
