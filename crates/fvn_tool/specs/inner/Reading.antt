-- What was heard of the words of the command line.
use Rattle.std.specs.Prelude.{◌≤◌, ℕ, List}
use Rattle.fvn_cmd_words.specs.declared.reach.Reach.{Reach}
use Rattle.fvn_cmd_laws.specs.CmdExploringSearches.{KeepsSome, AreSomeWorkers}
use Rattle.fvn_cmd_words.specs.declared.limits.TheConstants.{LEAST_WORK, MOST_WORK}
use Rattle.fvn_tool.specs.declared.words.Heard.{Heard}
use Rattle.fvn_tool.specs.declared.words.Heard.TheVariants.{NoCommand, Work, OverModule}
use Rattle.fvn_tool.specs.declared.words.Command.{Command as Given}
use Rattle.fvn_tool.specs.declared.words.Command.TheVariants.{Check, Unify, Verify, Terminates, Variants, Vunify}
use Rattle.fvn_tool.specs.Words.{Command, check, unify, verify, terminates, variants, vunify, work, IsCommand, AreNoCommand}

-- the command that a value of the program stands for
abbrev pub meant : Given → Command
meant Check = check
meant (Unify problem) = unify problem.now
meant (Verify problem bindings steps) = verify problem.now bindings.now steps
meant (Terminates weights) = terminates weights.now
meant (Variants term reach workers) = variants term.now reach
meant (Vunify problem reach workers) = vunify problem.now reach

-- a search that can be carried out
abbrev pub IsFitSearch : Reach → ℕ → Type 0
IsFitSearch reach workers = KeepsSome reach × AreSomeWorkers workers

-- the command can be carried out
abbrev pub IsFit : Given → Type 0
IsFit Check = Unit {0}
IsFit (Unify problem) = Unit {0}
IsFit (Verify problem bindings steps) = Unit {0}
IsFit (Terminates weights) = Unit {0}
IsFit (Variants term reach workers) = IsFitSearch reach workers
IsFit (Vunify problem reach workers) = IsFitSearch reach workers

-- a number of `work`
pub record IsWorkNumber (number : ℕ) : Type 0 where
  pub least : LEAST_WORK ≤ number
  pub most : number ≤ MOST_WORK

-- this was heard of the words: the command that they are, which can be carried out, or that they are none
abbrev pub IsHeard : List (List ℕ) → Heard → Type 0
IsHeard words NoCommand = AreNoCommand words
IsHeard words (Work number) = IsCommand words (work number) × IsWorkNumber number
IsHeard words (OverModule command) = IsCommand words (meant command) × IsFit command
