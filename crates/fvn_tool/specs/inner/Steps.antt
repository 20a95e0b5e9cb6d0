-- What the steps of a run give.
use Rattle.std.specs.Prelude.{◌≡◌, ◌+◌, ℕ, List}
use Rattle.fvn_base.specs.declared.limits.TheConstants.{MODULE_BYTES}
use Rattle.fvn_outside.specs.Source.{TakesCount}
use Rattle.fvn_cmd.specs.declared.status.Status.{Status}
use Rattle.fvn_cmd.specs.declared.status.Status.TheVariants.{Usage, ModuleRefused}
use Rattle.fvn_cmd_laws.specs.CmdCheckChecks.{IsCheckReply}
use Rattle.fvn_cmd_terminates.specs.Replies.{IsTerminatesReply}
use Rattle.fvn_cmd_laws.specs.CmdVerifyReplies.{IsVerifyReply}
use Rattle.fvn_cmd_laws.specs.CmdUnifyReplies.{IsUnifyReply}
use Rattle.fvn_cmd_laws.specs.CmdVariantsReplies.{IsVariantsReply}
use Rattle.fvn_cmd_laws.specs.CmdVunifyReplies.{IsVunifyReply}
use Rattle.fvn_cmd_work.specs.Replies.{IsWorkAnswer}
use Rattle.fvn_tool.specs.Words.{Command, check, unify, verify, terminates, variants, vunify, work, IsCommand, AreNoCommand, ReadsModule, text_for}
use Rattle.fvn_tool.specs.Asked.{too_long_line, IsShort}
use Rattle.fvn_tool.specs.Runs.{Outside}
use Rattle.fvn_tool.specs.Outcomes.{usage_line, AreRead}

-- this status with this text is the reply of the command's crate, over the bytes of a module where it reads them
abbrev pub IsCommandReply : Command → List ℕ → Status → List ℕ → Type 0
IsCommandReply check bytes status text = IsCheckReply bytes status text
IsCommandReply (unify word) bytes status text = IsUnifyReply bytes word status text
IsCommandReply (verify problem bindings steps) bytes status text = IsVerifyReply bytes problem bindings steps status text
IsCommandReply (terminates word) bytes status text = IsTerminatesReply bytes word status text
IsCommandReply (variants word reach) bytes status text = IsVariantsReply bytes word reach status text
IsCommandReply (vunify word reach) bytes status text = IsVunifyReply bytes word reach status text
IsCommandReply (work number) bytes status text = IsWorkAnswer number status text

-- what the words as they are read, and the source, lead to
pub data IsGivenOutcome (words : List (List ℕ)) (source : Outside) : Status → List ℕ → Type 0 where
  is_usage : {text : List ℕ} → AreNoCommand words → text ≡ usage_line → IsGivenOutcome words source Usage text
  is_long : {text : List ℕ} (command : Command) → IsCommand words command → ReadsModule command →
      TakesCount source.before source.after (MODULE_BYTES + 1) → text ≡ too_long_line →
      IsGivenOutcome words source ModuleRefused text
  is_replied : {status : Status} {text : List ℕ} (command : Command) (bytes : List ℕ) →
      IsCommand words command → AreRead command source bytes → IsShort (text_for command bytes) →
      IsCommandReply command bytes status text → IsGivenOutcome words source status text
