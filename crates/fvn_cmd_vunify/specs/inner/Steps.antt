-- What the steps of `vunify` are given, find and reply.
use Rattle.std.specs.Prelude.{◌≤◌, ◌⊎◌, ℕ, List, length, All}
use Rattle.fvn_terms.specs.declared.declarations.Declarations.{Declarations}
use Rattle.fvn_terms.specs.Substitution.{Substitution}
use Rattle.fvn_terms.specs.Unifiers.{Problem}
use Rattle.fvn_flat.specs.Drawn.{IsDrawn}
use Rattle.fvn_flat.specs.Fits.{Fits}
use Rattle.fvn_flat.specs.Problems.{plain_pairs, IsProblem as AreOfKinds}
use Rattle.fvn_flat.specs.Solving.{FlatPairs}
use Rattle.fvn_problems.specs.declared.problem.Problem.{Problem as AskedProblem}
use Rattle.fvn_problems.specs.Problems.{AreOfOneKind, HasVariables}
use Rattle.fvn_module.specs.Contents.{Contents}
use Rattle.fvn_module_loading.specs.Loading.{IsLoaded}
use Rattle.fvn_exploring.specs.declared.ends.Explored.{Explored}
use Rattle.fvn_exploring.specs.Explorations.{IsExploration}
use Rattle.fvn_closure.specs.Laws.{ExplorationsAreLawful}
use Rattle.fvn_vunify.specs.declared.solved.SolvedModulo.{SolvedModulo}
use Rattle.fvn_vunify.specs.Sides.{sides_in_turn}
use Rattle.fvn_vunify.specs.Solved.{IsSolvedModulo}
use Rattle.fvn_vunify.specs.AtOnce.{IsSolvedAtOnce}
use Rattle.fvn_answer.specs.Asked.{AreAsked}
use Rattle.fvn_cmd.specs.declared.status.Status.{Status}
use Rattle.fvn_cmd_words.specs.declared.reach.Reach.{Reach}
use Rattle.fvn_cmd_exploring.specs.Searches.{setting_of, limits_of}
use Rattle.fvn_cmd_vunify.specs.Replies.{IsVunifyReply}

-- pairs of forms that fit, each pair of one kind
pub record AreSides (d : Declarations) (pairs : FlatPairs) : Type 0 where
  pub some : 1 ≤ length pairs
  pub fit : All (λ p. Fits d p.0 × Fits d p.1) pairs
  pub kinds : AreOfKinds d (plain_pairs pairs)

-- the sides of the pairs were explored with a solver that may draw so, and the pairs solved in what was found; and what is
-- known of such explorations
pub record IsSolvedExploring (m : Contents) (reach : Reach) (drawn : Problem → Substitution → Type 0) (pairs : FlatPairs)
    (r : SolvedModulo) : Type 0 where
  pub explored : Explored
  pub exploration : IsExploration (setting_of m reach) drawn (sides_in_turn pairs) (limits_of m reach 1) explored
  pub laws : ExplorationsAreLawful (setting_of m reach) drawn
  pub solved : IsSolvedModulo (setting_of m reach) drawn pairs (limits_of m reach 1) explored r

-- the pairs were solved so, or at once
abbrev pub IsSolvedBy : Contents → Reach → (Problem → Substitution → Type 0) → FlatPairs → SolvedModulo → Type 0
IsSolvedBy m reach drawn pairs r =
    IsSolvedExploring m reach drawn pairs r ⊎ IsSolvedAtOnce (setting_of m reach) pairs r

-- the same with the solver modulo the axioms
abbrev pub IsSolvedIn : Contents → Reach → FlatPairs → SolvedModulo → Type 0
IsSolvedIn m reach = IsSolvedBy m reach (IsDrawn m.signature)

-- the sides of each pair are of one kind, and the variables can be asked for
pub record IsProblemIn (m : Contents) (p : AskedProblem) : Type 0 where
  pub some : 1 ≤ length p.pairs
  pub kinded : All (AreOfOneKind m.signature) p.pairs
  pub vars : HasVariables m.signature p
  pub asked : AreAsked m.signature p.names.texts p.vars

-- replies to a word, whichever bytes are loaded as this module
abbrev pub RepliesIn : Contents → List ℕ → Reach → Status → List ℕ → Type 0
RepliesIn m word reach status text = (bytes : List ℕ) → IsLoaded bytes m → IsVunifyReply bytes word reach status text
