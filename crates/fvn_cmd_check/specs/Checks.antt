-- What the program replies to `check`.
use Rattle.std.specs.Prelude.{ℕ, List, [], ◌++◌, Option}
use Rattle.fvn_module.specs.Contents.{Contents}
use Rattle.fvn_module_loading.specs.Loading.{IsLoaded}
use Rattle.fvn_module_loading.specs.Losses.{IsLossOf}
use Rattle.fvn_cmd_texts.specs.Summaries.{summary_text, sorts_text}
use Rattle.fvn_cmd.specs.declared.status.Status.{Status}
use Rattle.fvn_cmd.specs.declared.status.Status.TheVariants.{Solved}
use Rattle.fvn_cmd.specs.Texts.{line, Is}
use Rattle.fvn_cmd.specs.Refusing.{IsReply}

-- the lines that say how much the module declares, and which equation is the first that loses a sort, or that none does
abbrev pub told_lines : Contents → Option ℕ → List ℕ
told_lines m loss = line (summary_text m) ++ line (sorts_text loss)

-- these lines on the module, with their status, where the second is right
pub record TellsSorts (m : Contents) (status : Status) (text : List ℕ) : Type 0 where
  pub loss : Option ℕ
  pub loss_is : IsLossOf m loss
  pub told : Is Solved (told_lines m loss) status text

module _ (bytes : List ℕ) where
  -- this status and this text tell of the module as which the bytes are loaded
  abbrev pub IsCheckAnswer : Status → List ℕ → Type 0
  IsCheckAnswer status text = (m : Contents) × (IsLoaded bytes m × TellsSorts m status text)

  -- this status and this text reply to `check` over the bytes
  abbrev pub IsCheckReply : Status → List ℕ → Type 0
  IsCheckReply = IsReply bytes [] IsCheckAnswer
