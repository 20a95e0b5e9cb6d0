-- What a choice at a leaf gives.
use Rattle.std.specs.Prelude.{ℕ}
use Rattle.fvn_terms.specs.declared.declarations.Declarations.{Declarations}
use Rattle.fvn_terms.specs.Substitution.{Substitution}
use Rattle.fvn_flat.specs.Bindings.{value}
use Rattle.fvn_flat.specs.Problems.{variables_of}
use Rattle.fvn_flat.specs.Solving.{problem_of, IsTooLarge}
use Rattle.fvn_flat.specs.declared.solver.Pairs.{Pairs}
use Rattle.fvn_combine_nodes.specs.Table.{NodeTable}
use Rattle.fvn_combine_nodes.specs.declared.state.State.{State}
use Rattle.fvn_combine_choices.specs.Choosing.{Systems, Choice}
use Rattle.fvn_combine_choices.specs.Covering.{CoversOnKinds}
use Rattle.fvn_combine_candidates.specs.CombineCompleteCoveringChoices.{IsCovering}
use Rattle.fvn_combine_drawing.specs.OnKinds.{IsGivenOnKinds}
use Rattle.fvn_combine_drawing.specs.declared.drawing.Drawn.{Drawn}
use Rattle.fvn_combine_drawing.specs.declared.drawing.Drawn.TheVariants.{Nothing, TooLarge, Unifier}

module _ (d : Declarations) (given : Pairs) (first size : ℕ) (t : NodeTable) (s : State) (y : Systems) (c : Choice) where
  -- nothing, where the choice covers no unifier; bindings that unfold to too many symbols;
  -- or a unifier on kinds, of which all that the choice covers are instances
  abbrev pub IsDrawnBy : Drawn → Type 0
  IsDrawnBy Nothing = (u : Substitution) → IsCovering d (problem_of given) t s y u c → ⊥
  IsDrawnBy (TooLarge list) = IsTooLarge d given size list.bindings
  IsDrawnBy (Unifier g) = IsGivenOnKinds d given first size g × ((u : Substitution) → IsCovering d (problem_of given) t s y u c → CoversOnKinds d (variables_of (problem_of given)) (value g) u)
