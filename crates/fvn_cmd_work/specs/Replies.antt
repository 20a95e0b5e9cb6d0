-- What the program replies to `work`.
use Rattle.std.specs.Prelude.{◌≡◌, ℕ, List, []}
use Rattle.fvn_problems.specs.declared.problem.Problem.{Problem}
use Rattle.fvn_module.specs.Contents.{Contents}
use Rattle.fvn_answer.specs.Answers.{IsAnswerText}
use Rattle.fvn_answer.specs.declared.end.End.{End}
use Rattle.fvn_cmd.specs.declared.status.Status.{Status}
use Rattle.fvn_cmd.specs.Asking.{Word}
use Rattle.fvn_cmd.specs.Ends.{status_of_end}
use Rattle.fvn_cmd_unify.specs.Solutions.{Found, IsSolution}
use Rattle.fvn_cmd_unify.specs.Replies.{unify_words, IsToBeUnified}
use Rattle.fvn_cmd_work.specs.Made.{work_module, work_problem}

-- the text is the line of the end, and no other
abbrev pub ShowsEnd : Contents → End → List ℕ → Type 0
ShowsEnd m end text = IsAnswerText m.signature m.names [] end text

-- this status with this text tells how the search for the unifiers of the problem in the module ended
pub record IsCount (m : Contents) (p : Problem) (status : Status) (text : List ℕ) : Type 0 where
  pub found : Found
  pub solution : IsSolution m p found
  pub shown : ShowsEnd m found.end text
  pub status_is : status ≡ status_of_end found.end

-- the word of `work` as it is read in the module: the problem of its number
abbrev pub work_words : ℕ → List Word
work_words n = unify_words (work_problem n)

-- this status and this text answer what the number asks; what it asks is read as it is from other texts, and not refused
abbrev pub IsWorkAnswer : ℕ → Status → List ℕ → Type 0
IsWorkAnswer n status text =
    (m : Contents) × (p : Problem) × (IsToBeUnified work_module (work_problem n) m p × IsCount m p status text)
