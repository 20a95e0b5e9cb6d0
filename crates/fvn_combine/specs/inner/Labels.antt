-- Operators that may be noted of classes.
use Rattle.std.specs.Prelude.{◌≡◌, ◌⊎◌, ℕ, List, slice_index_or, Option, Some, None}
use Rattle.fvn_terms.specs.declared.plain.OpId.{OpId}
use Rattle.fvn_combine_nodes.specs.States.{class_of}
use Rattle.fvn_combine_nodes.specs.declared.state.State.{State}
use Rattle.fvn_combine_drawing.specs.CombineCompleteNeutral.{IsNeutral}
use Rattle.fvn_combine_inferring.specs.Inferred.{IsSumOfNoOther}
use Rattle.fvn_combine.specs.Tasks.{Combining}

module _ (k : Combining) (s : State) where
  -- node x names its class, no operator but f that uses the class makes its value a sum, and f's identity leaves sorts alone
  pub record IsCandidate (x : ℕ) (f : OpId) : Type 0 where
    pub named : class_of s x ≡ x
    pub other : IsSumOfNoOther k.declarations k.table s k.sorted f x
    pub neutral : IsNeutral k.declarations f

  module _ (heads : List (Option OpId)) where
    -- f is noted in heads, or it is a candidate
    abbrev pub IsHeadOrCandidate : ℕ → OpId → Type 0
    IsHeadOrCandidate x f = (slice_index_or heads x None ≡ Some f) ⊎ IsCandidate x f

    -- so is each operator of the list, for the class at its place
    abbrev pub AreCandidates : List (Option OpId) → Type 0
    AreCandidates candidates = (x : ℕ) (f : OpId) → slice_index_or candidates x None ≡ Some f → IsHeadOrCandidate x f
