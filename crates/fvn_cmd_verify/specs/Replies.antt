-- What the program replies to `verify`.
use Rattle.std.specs.Prelude.{ℕ, List, [], ◌∷◌, All}
use Rattle.fvn_terms.specs.Substitution.{value}
use Rattle.fvn_module.specs.Contents.{Contents}
use Rattle.fvn_theory.specs.Equations.{equations_of}
use Rattle.fvn_module_loading.specs.Loading.{IsLoaded}
use Rattle.fvn_problems.specs.declared.problem.Problem.{Problem}
use Rattle.fvn_problems.specs.declared.bindings.Bindings.{Bindings}
use Rattle.fvn_problems.specs.Problems.{IsProblem}
use Rattle.fvn_problems.specs.Bindings.{IsBindings}
use Rattle.fvn_verify.specs.Verdicts.{AreEqual}
use Rattle.fvn_cmd.specs.declared.status.Status.{Status}
use Rattle.fvn_cmd.specs.Asking.{Word, problem_word, bindings_word}
use Rattle.fvn_cmd.specs.Refusing.{IsReply}
use Rattle.fvn_cmd_verify.specs.Verdicts.{TellsVerdict}

-- under the bindings the sides of each pair are equal in the theory of the module
abbrev pub AreSolvedBy : Contents → Problem → Bindings → Type 0
AreSolvedBy m p b = All (AreEqual m.signature (equations_of m.equations) (value b.subst.pairs)) p.pairs

-- the words of `verify`: a problem, and bindings in it
abbrev pub verify_words : (problem bindings : List ℕ) → List Word
verify_words problem bindings = problem_word problem ∷ bindings_word problem bindings ∷ []

module _ (bytes : List ℕ) where
  -- the bytes are loaded as this module, and in it the word is this problem
  pub record IsAskedIn (problem : List ℕ) (m : Contents) (p : Problem) : Type 0 where
    pub module_text : IsLoaded bytes m
    pub problem_text : IsProblem m.signature m.names problem p

  -- the bytes are loaded as this module, the first word is this problem in it, and the second word is these bindings in
  -- this problem
  pub record IsAskedOf (problem bindings : List ℕ) (m : Contents) (p : Problem) (b : Bindings) : Type 0 where
    pub asked_in : IsAskedIn problem m p
    pub bindings_text : IsBindings m.signature m.names p bindings b

  -- this status and this text tell a verdict on what is asked, with this limit on steps
  abbrev pub IsVerifyAnswer : (problem bindings : List ℕ) (steps : ℕ) → Status → List ℕ → Type 0
  IsVerifyAnswer problem bindings steps status text =
      (m : Contents) × (p : Problem) × (b : Bindings)
      × (IsAskedOf problem bindings m p b × TellsVerdict m steps p b status text)

  -- this status and this text reply to `verify` over the bytes of a module and two words, with this limit on steps
  abbrev pub IsVerifyReply : (problem bindings : List ℕ) (steps : ℕ) → Status → List ℕ → Type 0
  IsVerifyReply problem bindings steps =
      IsReply bytes (verify_words problem bindings) (IsVerifyAnswer problem bindings steps)
