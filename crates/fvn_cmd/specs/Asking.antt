-- The words of commands: what they are read as in a module, and the first fault of words that are not.
use Rattle.std.specs.Prelude.{◌⊎◌, ℕ, List, [], ◌∷◌}
use Rattle.std.specs.List.{AllByRecursion}
use Rattle.fvn_module.specs.Contents.{Contents}
use Rattle.fvn_problems.specs.declared.fault.ProblemFault.{ProblemFault}
use Rattle.fvn_problems.specs.declared.problem.Problem.{Problem}
use Rattle.fvn_problems.specs.declared.bindings.Bindings.{Bindings}
use Rattle.fvn_problems.specs.declared.query.Query.{Query}
use Rattle.fvn_problems.specs.Problems.{IsProblem, RefusesProblem}
use Rattle.fvn_problems.specs.Bindings.{IsBindings, RefusesBindings}
use Rattle.fvn_problems.specs.Queries.{IsQuery, RefusesQuery}
use Rattle.fvn_weights.specs.declared.weights.Weights.{Weights}
use Rattle.fvn_weights_reading.specs.Reading.{IsWeights, RefusesWeights}

-- a word of a command, by what it is read as: a problem, bindings in the problem that another word is, weights of
-- operators, or a term
pub data Word : Type 0 where
  problem_word : (text : List ℕ) → Word
  bindings_word : (problem text : List ℕ) → Word
  weights_word : (text : List ℕ) → Word
  term_word : (text : List ℕ) → Word

module _ (m : Contents) where
  -- in the module the word is what it should be
  abbrev pub Stands : Word → Type 0
  Stands (problem_word text) = (p : Problem) × IsProblem m.signature m.names text p
  Stands (bindings_word problem text) =
      (p : Problem) × (b : Bindings)
      × (IsProblem m.signature m.names problem p × IsBindings m.signature m.names p text b)
  Stands (weights_word text) = (w : Weights) × IsWeights m.signature m.names text w
  Stands (term_word text) = (t : Query) × IsQuery m.signature m.names text t

  -- the word has this first fault
  abbrev pub IsFaultOf : Word → ProblemFault → Type 0
  IsFaultOf (problem_word text) fault = RefusesProblem m.signature m.names text fault
  IsFaultOf (bindings_word problem text) fault =
      (p : Problem) × (IsProblem m.signature m.names problem p × RefusesBindings m.signature m.names p text fault)
  IsFaultOf (weights_word text) fault = RefusesWeights m.signature m.names text fault
  IsFaultOf (term_word text) fault = RefusesQuery m.signature m.names text fault

  -- the words are what they should be
  abbrev pub AllStand : List Word → Type 0
  AllStand words = AllByRecursion Stands words

  -- this is the fault of the first of the words that is not
  abbrev pub IsFirstFault : List Word → ProblemFault → Type 0
  IsFirstFault [] fault = ⊥
  IsFirstFault (w ∷ words) fault = IsFaultOf w fault ⊎ (Stands w × IsFirstFault words fault)
