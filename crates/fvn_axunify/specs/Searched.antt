-- What a search gave until it ended: all of it is held by the answer.
use Rattle.std.specs.Prelude.{◌≡◌, ◌≤◌, ℕ, false, List, None, Ok, Err, All, Any}
use Rattle.fvn_terms.specs.declared.declarations.Declarations.{Declarations}
use Rattle.fvn_terms.specs.Substitution.{Substitution}
use Rattle.fvn_terms.specs.Unifiers.{IsUnifier, IsInstance}
use Rattle.fvn_flat.specs.Bindings.{Bindings, value}
use Rattle.fvn_flat.specs.Problems.{variables_of}
use Rattle.fvn_flat.specs.Solving.{substitution, problem_of, symbols_of_pairs}
use Rattle.fvn_flat.specs.declared.solver.Pairs.{Pairs}
use Rattle.fvn_flat.specs.declared.solver.Solved.{Solved}
use Rattle.fvn_flat.specs.declared.solver.SolveEnd.{SolveEnd}
use Rattle.fvn_flat.specs.declared.solver.SolveEnd.TheVariants.{Complete, Basis, Unifiers, Size}
use Rattle.fvn_flat.specs.declared.solver.SizeCause.TheVariants.{Problem, Binding, Term}
use Rattle.fvn_combine.specs.CombineChoicesCovering.{CoversOnKinds}
use Rattle.fvn_combine.specs.Search.{Search}
use Rattle.fvn_combine.specs.Advancing.{IsOf, IsToCome, IsGivenNext, IsAdvanced, AreGiven}
use Rattle.fvn_combine.specs.declared.ending.CombineEnd.TheVariants.{Basis as OfBasis, Size as OfSize}

-- what the last answer of a search said: no unifier was to come; a sum system is refused, no question was open, and all unifiers were
-- asked for; one more is given, with which the limit is reached; or a solved list unfolds to too many symbols
abbrev pub EndsSo : Search → Search → SolveEnd → Type 0
EndsSo last now Complete = IsAdvanced last now (Ok None)
EndsSo last now (Basis f system) = IsAdvanced last now (Err (OfBasis f system)) × (last.combining.general ≡ false)
EndsSo last now Unifiers = (g : Bindings) × IsGivenNext last now g
EndsSo last now (Size (Problem p)) = ⊥
EndsSo last now (Size (Binding list)) = IsAdvanced last now (Err (OfSize list))
EndsSo last now (Size (Term t)) = ⊥

-- a search for the unifiers of a problem, where it is known of which substitutions an answer holds an instance
module _ (d : Declarations) (given : Pairs) (Holds : Substitution → Type 0) where
  -- each unifier that g covers is held
  abbrev pub IsHeldWhole : Bindings → Type 0
  IsHeldWhole g =
      (u : Substitution) → IsUnifier d (problem_of given) u → CoversOnKinds d (variables_of (problem_of given)) (value g) u → Holds u

  -- between these two the search gave some, one after another, and all that they cover is held
  pub record IsRun (start now : Search) : Type 0 where
    pub gave : List Bindings
    pub in_turn : AreGiven start gave now
    pub whole : All IsHeldWhole gave

  -- it ended so, and all that it gave is held, but for the one with which the limit was reached
  pub record IsRunToEnd (start now : Search) (end : SolveEnd) : Type 0 where
    pub last : Search
    pub run : IsRun start last
    pub ended : EndsSo last now end

  -- it ended so from a start at which every unifier of the problem was to come
  pub record IsSearched (first size : ℕ) (end : SolveEnd) : Type 0 where
    pub start : Search
    pub now : Search
    pub of : IsOf d given first size start
    pub all : (u : Substitution) → IsUnifier d (problem_of given) u → IsToCome start u
    pub run : IsRunToEnd start now end

-- u is an instance of a unifier of the answer, on the problem's variables
abbrev pub IsAnswered : Declarations → Pairs → Solved → Substitution → Type 0
IsAnswered d given r u = Any (λ s. IsInstance d (variables_of (problem_of given)) u (substitution s)) r.unifiers

-- where the problem has no more symbols than this, the answer comes of a search, and holds all that the search gave
abbrev pub HoldsItsSearch : Declarations → Pairs → (first size : ℕ) → Solved → Type 0
HoldsItsSearch d given first size r = symbols_of_pairs given.pairs ≤ size → IsSearched d given (IsAnswered d given r) first size r.end
