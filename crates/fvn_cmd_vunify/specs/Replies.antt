-- What the program replies to `vunify`.
use Rattle.std.specs.Prelude.{◌≡◌, List, ℕ}
use Rattle.fvn_problems.specs.declared.problem.Problem.{Problem}
use Rattle.fvn_module.specs.Contents.{Contents}
use Rattle.fvn_cmd.specs.declared.status.Status.{Status}
use Rattle.fvn_cmd.specs.Refusing.{IsReply}
use Rattle.fvn_cmd.specs.Ends.{status_of_end}
use Rattle.fvn_cmd_unify.specs.Replies.{unify_words, IsToBeUnified}
use Rattle.fvn_cmd_words.specs.declared.reach.Reach.{Reach}
use Rattle.fvn_cmd_vunify.specs.Solutions.{Found, end_of, IsSolution, Shows}

-- this status with this text answers the problem in the theory of the module
pub record IsAnswer (m : Contents) (p : Problem) (reach : Reach) (status : Status) (text : List ℕ) : Type 0 where
  pub found : Found
  pub solution : IsSolution m p reach found
  pub shown : Shows m p reach found text
  pub status_is : status ≡ status_of_end (end_of reach found)

module _ (bytes : List ℕ) where
  -- this status and this text answer what is asked
  abbrev pub IsVunifyAnswer : List ℕ → Reach → Status → List ℕ → Type 0
  IsVunifyAnswer word reach status text =
      (m : Contents) × (p : Problem) × (IsToBeUnified bytes word m p × IsAnswer m p reach status text)

  -- this status with this text replies to `vunify` over the bytes of a module and a word
  abbrev pub IsVunifyReply : List ℕ → Reach → Status → List ℕ → Type 0
  IsVunifyReply word reach = IsReply bytes (unify_words word) (IsVunifyAnswer word reach)
