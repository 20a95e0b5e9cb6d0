-- What the words and the source of a run ask for: a status and its text.
use Rattle.std.specs.Prelude.{◌≡◌, ◌+◌, ℕ, List, codes}
use Rattle.std.specs.Io.KnownBytes.{IsAtEnd}
use Rattle.fvn_base.specs.declared.limits.TheConstants.{MODULE_BYTES}
use Rattle.fvn_outside.specs.Source.{Takes, TakesCount}
use Rattle.fvn_cmd.specs.declared.status.Status.{Status}
use Rattle.fvn_cmd.specs.declared.status.Status.TheVariants.{Usage, ModuleRefused}
use Rattle.fvn_cmd.specs.Texts.{line}
use Rattle.fvn_tool.specs.Words.{Command, IsCommand, AreNoCommand, ReadsModule, text_for}
use Rattle.fvn_tool.specs.Asked.{too_long_line}
use Rattle.fvn_tool.specs.Answered.{IsReply}
use Rattle.fvn_tool.specs.Runs.{Outside}

-- the line for words that are no command
abbrev pub usage_line : List ℕ
usage_line = line (codes "usage: fvn check|unify|variants|vunify|verify|work|terminates")

-- the bytes are all that the source had, where the command reads them
abbrev pub AreRead : Command → Outside → List ℕ → Type 0
AreRead command source bytes = ReadsModule command → Takes source.before source.after bytes × IsAtEnd source.after

-- The status and the text that these words ask for, with what the source gave: the line for words that are no command; the
-- line of a module of which one byte too many was taken; or the reply to a command, over all bytes that the source had, or
-- over the command's own.
pub data IsOutcome (words : List (List ℕ)) (source : Outside) : Status → List ℕ → Type 0 where
  no_command : {text : List ℕ} → AreNoCommand words → text ≡ usage_line → IsOutcome words source Usage text
  too_long : {text : List ℕ} (command : Command) → IsCommand words command → ReadsModule command →
      TakesCount source.before source.after (MODULE_BYTES + 1) → text ≡ too_long_line →
      IsOutcome words source ModuleRefused text
  replied : {status : Status} {text : List ℕ} (command : Command) (bytes : List ℕ) → IsCommand words command →
      AreRead command source bytes → IsReply (text_for command bytes) command status text →
      IsOutcome words source status text
