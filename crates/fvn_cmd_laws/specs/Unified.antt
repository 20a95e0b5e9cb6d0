-- What an answer to `unify` promises, in words over its status and what was found.
use Rattle.std.specs.Prelude.{◌≡◌, ◌↔◌, ℕ, List, [], length, All}
use Rattle.fvn_base.specs.declared.limits.TheConstants.{UNIFIERS}
use Rattle.fvn_terms.specs.declared.plain.OpId.{OpId}
use Rattle.fvn_terms.specs.Substitution.{Substitution}
use Rattle.fvn_terms.specs.CompleteSets.{IsCompleteSet, IsApart}
use Rattle.fvn_flat.specs.Drawn.{IsDrawn}
use Rattle.fvn_module.specs.Contents.{Contents}
use Rattle.fvn_problems.specs.declared.problem.Problem.{Problem}
use Rattle.fvn_answer.specs.declared.end.End.TheVariants.{Complete}
use Rattle.fvn_cmd.specs.declared.status.Status.{Status}
use Rattle.fvn_cmd.specs.declared.status.Status.TheVariants.{Nothing}
use Rattle.fvn_cmd.specs.Causes.{HasNoBasis, IsTooLarge}
use Rattle.fvn_cmd_vunify.specs.CmdUnifyAsked.{Unifies, IsInstanceOf, CannotBeUnified, flattened, AreFlattened}
use Rattle.fvn_cmd_vunify.specs.CmdUnifySolutions.{Found}

module _ (m : Contents) (p : Problem) where
  -- Nothing comes exactly at `complete 0`, and only where no substitution unifies; where none does, there is no line
  pub record IsNothingExact (status : Status) (found : Found) : Type 0 where
    pub end_is : status ≡ Nothing ↔ (found.end ≡ Complete 0)
    pub only : status ≡ Nothing → CannotBeUnified m p
    pub no_line : CannotBeUnified m p → found.values ≡ []

  -- there are as many unifiers that may be drawn as an answer may have, none an instance of another
  pub record HasTooManyUnifiers : Type 0 where
    pub values : List Substitution
    pub sound : All (Unifies m p) values
    pub drawn : All (IsDrawn m.signature (flattened m p)) values
    pub apart : IsApart (IsInstanceOf m p) values
    pub count : length values ≡ UNIFIERS

  -- nothing is too large, every operator has a basis, and there are not too many unifiers of the problem
  pub record HasFewUnifiers : Type 0 where
    pub small : IsTooLarge m.signature (AreFlattened m p) → ⊥
    pub basis : (f : OpId) → HasNoBasis m.signature (AreFlattened m p) f → ⊥
    pub few : HasTooManyUnifiers → ⊥

  -- each complete set of its unifiers of which none is an instance of another has so many
  abbrev pub IsCountOfUnifiers : ℕ → Type 0
  IsCountOfUnifiers n =
      (values : List Substitution) → IsCompleteSet (Unifies m p) (IsInstanceOf m p) values → IsApart (IsInstanceOf m p) values →
      length values ≡ n
