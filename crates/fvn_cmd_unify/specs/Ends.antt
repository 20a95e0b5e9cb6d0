-- How an answer to `unify` ends, and why.
use Rattle.std.specs.Prelude.{◌≡◌, List, length}
use Rattle.fvn_base.specs.declared.limits.TheConstants.{TERM_SYMBOLS, UNIFIERS}
use Rattle.fvn_terms.specs.Substitution.{Substitution}
use Rattle.fvn_problems.specs.declared.problem.Problem.{Problem}
use Rattle.fvn_module.specs.Contents.{Contents}
use Rattle.fvn_answer.specs.declared.end.End.{End}
use Rattle.fvn_answer.specs.declared.end.End.TheVariants.{Complete, Levels, Variants, Steps, Size, Basis, Unifiers, Sorts}
use Rattle.fvn_cmd.specs.Causes.{HasNoBasis, IsTooLarge, HasTooMany, MeetsNoBound}
use Rattle.fvn_cmd_unify.specs.Asked.{AreFlattened}

module _ (m : Contents) (p : Problem) where
  -- why an answer with these unifiers ends so, where the problem in flat form is given to the solver
  abbrev pub IsCauseOf : List Substitution → End → Type 0
  IsCauseOf values (Complete n) = n ≡ length values
  IsCauseOf values (Size n) = (n ≡ TERM_SYMBOLS) × IsTooLarge m.signature (AreFlattened m p)
  IsCauseOf values (Basis f) = HasNoBasis m.signature (AreFlattened m p) f
  IsCauseOf values (Unifiers n) = (n ≡ UNIFIERS) × HasTooMany m.signature (AreFlattened m p)
  IsCauseOf values (Levels n) = ⊥
  IsCauseOf values (Variants n) = ⊥
  IsCauseOf values (Steps n t) = ⊥
  IsCauseOf values (Sorts n) = ⊥

  -- the problem meets no bound of the solver
  abbrev pub StaysWithinBounds : Type 0
  StaysWithinBounds = MeetsNoBound m.signature (AreFlattened m p)
