-- What decides which way commutative nodes of one class meet.
use Rattle.std.specs.Prelude.{◌≡◌, ◌⊎◌, ℕ, ◌<◌, List, [], ◌∷◌, length, Option, Some, None}
use Rattle.fvn_terms.specs.declared.plain.OpId.{OpId}
use Rattle.fvn_terms.specs.declared.declarations.Axioms.TheVariants.{Comm}
use Rattle.fvn_terms.specs.declared.declarations.Declarations.{Declarations}
use Rattle.fvn_terms.specs.Signature.{axioms}
use Rattle.fvn_combine_nodes.specs.Table.{NodeTable, IsOver}
use Rattle.fvn_combine_nodes.specs.Classes.{MeetEitherWay, FitTogether}
use Rattle.fvn_combine_nodes.specs.States.{class_of, IsOpen}
use Rattle.fvn_combine_questions.specs.Swaps.{IsSwap}
use Rattle.fvn_combine_nodes.specs.declared.state.State.{State}

-- the first of two nodes and of two others that meet neither way, which are open; none where that is not so
abbrev pub IsOpenFirst : State → List ℕ → List ℕ → Option (ℕ × ℕ) → Type 0
IsOpenFirst s ks ls None = (a b v w : ℕ) → ks ≡ a ∷ b ∷ [] → ls ≡ v ∷ w ∷ [] → MeetEitherWay (class_of s) a b v w ⊎ (IsOpen s a v → ⊥)
IsOpenFirst s ks ls (Some p) = (b : ℕ) × (w : ℕ) × (ks ≡ p.0 ∷ b ∷ []) × (ls ≡ p.1 ∷ w ∷ []) × IsOpen s p.0 p.1 × (MeetEitherWay (class_of s) p.0 b p.1 w → ⊥)

-- no operator that is commutative alone heads node i
abbrev pub IsNoSwap : Declarations → NodeTable → ℕ → Type 0
IsNoSwap d t i = (f : OpId) (ks : List ℕ) → IsOver t.nodes i f ks → axioms d f ≡ Comm → ⊥

module _ (d : Declarations) (t : NodeTable) (s : State) where
  -- nodes i and j are as partitions ask
  abbrev pub AreDecided : ℕ → ℕ → Type 0
  AreDecided i j = (f g : OpId) (ks ls : List ℕ) → IsOver t.nodes i f ks → IsOver t.nodes j g ls → FitTogether d (λ a v. ⊥) (class_of s) i j f g ks ls

  -- a swap, or none where nodes i and j are as partitions ask
  abbrev pub IsUndecidedAt : (i j : ℕ) → Option (ℕ × ℕ) → Type 0
  IsUndecidedAt i j None = AreDecided i j
  IsUndecidedAt i j (Some p) = IsSwap d t s p

  -- a swap, or none where node i and every other are as partitions ask
  abbrev pub IsUndecidedIn : (i : ℕ) → Option (ℕ × ℕ) → Type 0
  IsUndecidedIn i None = (j : ℕ) → j < length t.nodes → AreDecided i j
  IsUndecidedIn i (Some p) = IsSwap d t s p
