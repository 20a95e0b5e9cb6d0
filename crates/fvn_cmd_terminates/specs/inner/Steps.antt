-- What the steps of `terminates` reply.
use Rattle.std.specs.Prelude.{ℕ, List}
use Rattle.fvn_module.specs.Contents.{Contents}
use Rattle.fvn_module_loading.specs.Loading.{IsLoaded}
use Rattle.fvn_cmd.specs.declared.status.Status.{Status}
use Rattle.fvn_cmd_terminates.specs.Replies.{IsTerminatesReply}

-- replies to a word, whichever bytes are loaded as this module
abbrev pub RepliesIn : Contents → List ℕ → Status → List ℕ → Type 0
RepliesIn m word status text = (bytes : List ℕ) → IsLoaded bytes m → IsTerminatesReply bytes word status text
