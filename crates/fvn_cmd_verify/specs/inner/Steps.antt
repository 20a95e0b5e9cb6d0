-- What the steps of `verify` are given and reply.
use Rattle.std.specs.Prelude.{ℕ, List}
use Rattle.fvn_terms.specs.declared.declarations.Declarations.{Declarations}
use Rattle.fvn_flat.specs.Fits.{Fits}
use Rattle.fvn_module.specs.Contents.{Contents}
use Rattle.fvn_module_loading.specs.Loading.{IsLoaded}
use Rattle.fvn_problems.specs.declared.problem.Problem.{Problem}
use Rattle.fvn_verify.specs.declared.verdict.Verdict.{Verdict}
use Rattle.fvn_verify.specs.declared.verdict.Verdict.TheVariants.{Yes, No, Steps, Size}
use Rattle.fvn_cmd.specs.declared.status.Status.{Status}
use Rattle.fvn_cmd_verify.specs.Replies.{IsAskedIn, IsVerifyReply}

-- the form that is told, where there is one, is flat and well-kinded
abbrev pub FitsVerdict : Declarations → Verdict → Type 0
FitsVerdict d Yes = Unit {0}
FitsVerdict d (No number left right) = Unit {0}
FitsVerdict d (Steps start reached) = Fits d start
FitsVerdict d (Size form) = Unit {0}

-- replies to a word, whichever bytes and word ask this problem in this module
abbrev pub RepliesToBindings : Contents → Problem → List ℕ → ℕ → Status → List ℕ → Type 0
RepliesToBindings m p bindings steps status text =
    (bytes problem : List ℕ) → IsAskedIn bytes problem m p → IsVerifyReply bytes problem bindings steps status text

-- replies to two words, whichever bytes are loaded as this module
abbrev pub RepliesToProblem : Contents → List ℕ → List ℕ → ℕ → Status → List ℕ → Type 0
RepliesToProblem m problem bindings steps status text =
    (bytes : List ℕ) → IsLoaded bytes m → IsVerifyReply bytes problem bindings steps status text
