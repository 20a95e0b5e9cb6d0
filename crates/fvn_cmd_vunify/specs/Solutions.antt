-- Unifiers in a theory with the end of the search for them, and the text that shows them.
use Rattle.std.specs.Prelude.{◌≡◌, ◌⊎◌, ℕ, List, [], map, length, Option, None, All}
use Rattle.std.specs.List.{AllZip}
use Rattle.fvn_terms.specs.Substitution.{Substitution}
use Rattle.fvn_terms.specs.Rewriting.{IsConfluent}
use Rattle.fvn_flat.specs.Drawn.{IsDrawn}
use Rattle.fvn_flat.specs.Solving.{substitution}
use Rattle.fvn_syntax.specs.Pieces.{Text}
use Rattle.fvn_problems.specs.declared.problem.Problem.{Problem}
use Rattle.fvn_module.specs.Contents.{Contents}
use Rattle.fvn_module_loading.specs.Losses.{IsLossOf}
use Rattle.fvn_theory.specs.Equations.{equations_of}
use Rattle.fvn_cover.specs.declared.variant.Variant.{Variant}
use Rattle.fvn_exploring.specs.declared.ends.Explored.{Explored}
use Rattle.fvn_exploring.specs.declared.ends.ExploreEnd.{ExploreEnd}
use Rattle.fvn_exploring.specs.declared.ends.ExploreEnd.TheVariants.{Complete, Levels}
use Rattle.fvn_exploring.specs.Explorations.{IsExploreCause}
use Rattle.fvn_vunify.specs.declared.solved.SolvedModulo.{SolvedModulo}
use Rattle.fvn_vunify.specs.Causes.{MeetsBound}
use Rattle.fvn_vunify.specs.Sides.{sides_in_turn}
use Rattle.fvn_vunify.specs.Solved.{IsSolvedModulo}
use Rattle.fvn_vunify.specs.AtOnce.{IsSolvedAtOnce}
use Rattle.fvn_answer.specs.Answers.{IsAnswerText}
use Rattle.fvn_answer.specs.declared.end.End.{End}
use Rattle.fvn_cmd.specs.Headline.{IsHeadline}
use Rattle.fvn_cmd_unify.specs.Solutions.{IsLineOf}
use Rattle.fvn_cmd_words.specs.declared.reach.Reach.{Reach}
use Rattle.fvn_cmd_exploring.specs.Searches.{setting_of, limits_of, AreExplored}
use Rattle.fvn_cmd_exploring.specs.Ends.{end_told}
use Rattle.fvn_cmd_vunify.specs.Asked.{flattened_pairs, HasFewLevels, theory_unifiers_of}

-- what was found: an exploration of the sides, what was solved, and where that is complete the first equation that loses a
-- sort, if one does
pub record Found : Type 0 where
  pub explored : Explored
  pub solved : SolvedModulo
  pub loss : Option ℕ

-- an exploration in which nothing was done
abbrev pub unexplored : Explored
unexplored = record { kept = []; variants = []; end = Complete }

-- the unifiers that were found
abbrev pub values : Found → List Substitution
values found = map substitution found.solved.unifiers

-- the search came to its end
abbrev pub IsSolvedWhole : Found → Type 0
IsSolvedWhole found = found.solved.end ≡ Complete

-- and no equation loses a sort
abbrev pub IsWhole : Found → Type 0
IsWhole found = IsSolvedWhole found × (found.loss ≡ None)

-- the end that is told of what was found
abbrev pub end_of : Reach → Found → End
end_of reach found = end_told reach found.solved.end found.loss (length found.solved.unifiers)

module _ (m : Contents) (p : Problem) where
  module _ (reach : Reach) where
    -- the sides of the pairs in flat form were explored so far, and the pairs solved in what was found
    pub record IsOfExploration (found : Found) : Type 0 where
      pub explored : AreExplored m reach (sides_in_turn (flattened_pairs m p)) found.explored
      pub solved : IsSolvedModulo (setting_of m reach) (IsDrawn m.signature) (flattened_pairs m p) (limits_of m reach 1) found.explored found.solved

    -- the sides of each pair in flat form have one normal form, and the pairs were solved without an exploration
    pub record IsOfEqualSides (found : Found) : Type 0 where
      pub explored : found.explored ≡ unexplored
      pub solved : IsSolvedAtOnce (setting_of m reach) (flattened_pairs m p) found.solved

    -- The pairs were solved in an exploration of their sides, or at once, where these are equal as they stand: these are
    -- unifiers with irreducible values, none an instance of another; where the search came to its end, no equation loses
    -- a sort, and the equations terminate and are confluent, they are all; the exploration does not end at its last level
    -- where they are confluent and finitely many variants of the sides within as many steps cover all; and the loss of a
    -- sort is right.
    pub record IsSolution (found : Found) : Type 0 where
      pub source : IsOfExploration found ⊎ IsOfEqualSides found
      pub headline : IsHeadline (theory_unifiers_of m p) (IsWhole found) (values found)
      pub finite : IsConfluent m.signature (equations_of m.equations) → HasFewLevels m p reach.levels →
          (v : Variant) → found.explored.end ≡ Levels v → ⊥
      pub loss_is : IsSolvedWhole found → IsLossOf m found.loss

    -- no end of the exploration but the complete one has a cause, and no pairs of a variant meet a bound
    pub record StaysWithinBounds (found : Found) : Type 0 where
      pub explored : (end : ExploreEnd) →
          IsExploreCause (setting_of m reach) (IsDrawn m.signature) (sides_in_turn (flattened_pairs m p)) (limits_of m reach 1) found.explored end →
          end ≡ Complete
      pub pairs : All (λ v. MeetsBound (setting_of m reach) (IsDrawn m.signature) v → ⊥) found.explored.variants

  -- the text shows a line for each of the substitutions, in byte order, and then the line of the end
  pub record Shows (reach : Reach) (found : Found) (text : Text) : Type 0 where
    pub lines : List Text
    pub lines_of : AllZip (IsLineOf m p) (values found) lines
    pub answer : IsAnswerText m.signature m.names lines (end_of reach found) text
    -- no two of them have one line
    pub count : length answer.lines ≡ length found.solved.unifiers
