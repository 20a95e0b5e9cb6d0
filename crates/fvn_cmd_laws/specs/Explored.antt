-- What answers over an exploration promise, in words over their status and what was found.
use Rattle.std.specs.Prelude.{◌≡◌, ◌↔◌, List, [], None}
use Rattle.fvn_terms.specs.Substitution.{Substitution}
use Rattle.fvn_problems.specs.declared.problem.Problem.{Problem}
use Rattle.fvn_module.specs.Contents.{Contents}
use Rattle.fvn_cmd.specs.declared.status.Status.{Status}
use Rattle.fvn_cmd.specs.declared.status.Status.TheVariants.{Nothing, Ended}
use Rattle.fvn_cmd_exploring.specs.Searches.{AreTrusted}
use Rattle.fvn_cmd_variants.specs.Solutions as of_terms
use Rattle.fvn_cmd_vunify.specs.Asked.{UnifiesInTheory}
use Rattle.fvn_cmd_vunify.specs.Solutions as modulo

-- the status is another one than Ended exactly where this is whole, and Nothing exactly where beside this nothing was found
pub record IsEndExact {A : Type 0} (status : Status) (IsWhole : Type 0) (found : List A) : Type 0 where
  pub whole : (status ≡ Ended → ⊥) ↔ IsWhole
  pub nothing : status ≡ Nothing ↔ (IsWhole × (found ≡ []))

-- What a status tells of variants: but at Ended the search came to its end, and no equation loses a sort.
abbrev pub IsVariantsExact : Status → of_terms.Found → Type 0
IsVariantsExact status found = IsEndExact status (of_terms.IsWhole found × (found.loss ≡ None)) (of_terms.values found)

-- What a status tells of unifiers in the theory: the same, and where the equations terminate and are confluent, Nothing
-- comes only where no substitution unifies.
pub record IsTheoryExact (m : Contents) (p : Problem) (status : Status) (found : modulo.Found) : Type 0 where
  pub end : IsEndExact status (modulo.IsWhole found) (modulo.values found)
  pub none : status ≡ Nothing → AreTrusted m → (s : Substitution) → UnifiesInTheory m p s → ⊥
