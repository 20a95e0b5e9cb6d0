-- What the program replies to `unify`.
use Rattle.std.specs.Prelude.{◌≡◌, List, [], ◌∷◌, ℕ}
use Rattle.fvn_problems.specs.declared.problem.Problem.{Problem}
use Rattle.fvn_problems.specs.Problems.{IsProblem}
use Rattle.fvn_module.specs.Contents.{Contents}
use Rattle.fvn_module_loading.specs.Loading.{IsLoaded}
use Rattle.fvn_cmd.specs.declared.status.Status.{Status}
use Rattle.fvn_cmd.specs.Asking.{Word, problem_word}
use Rattle.fvn_cmd.specs.Refusing.{IsReply}
use Rattle.fvn_cmd.specs.Ends.{status_of_end}
use Rattle.fvn_cmd_unify.specs.Solutions.{Found, IsSolution, Shows}

-- this status with this text answers the problem in the module
pub record IsAnswer (m : Contents) (p : Problem) (status : Status) (text : List ℕ) : Type 0 where
  pub found : Found
  pub solution : IsSolution m p found
  pub shown : Shows m p found text
  pub status_is : status ≡ status_of_end found.end

-- the word of `unify`: a problem
abbrev pub unify_words : List ℕ → List Word
unify_words word = problem_word word ∷ []

module _ (bytes : List ℕ) where
  -- the bytes are loaded as this module, and in it the word is this problem
  pub record IsToBeUnified (word : List ℕ) (m : Contents) (p : Problem) : Type 0 where
    pub module_text : IsLoaded bytes m
    pub problem_text : IsProblem m.signature m.names word p

  -- this status and this text answer what is asked
  abbrev pub IsUnifyAnswer : List ℕ → Status → List ℕ → Type 0
  IsUnifyAnswer word status text =
      (m : Contents) × (p : Problem) × (IsToBeUnified word m p × IsAnswer m p status text)

  -- this status with this text replies to `unify` over the bytes of a module and a word
  abbrev pub IsUnifyReply : List ℕ → Status → List ℕ → Type 0
  IsUnifyReply word = IsReply bytes (unify_words word) (IsUnifyAnswer word)
