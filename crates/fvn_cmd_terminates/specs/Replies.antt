-- What the program replies to `terminates`.
use Rattle.std.specs.Prelude.{List, [], ◌∷◌, ℕ}
use Rattle.fvn_module.specs.Contents.{Contents}
use Rattle.fvn_module_loading.specs.Loading.{IsLoaded}
use Rattle.fvn_weights.specs.declared.weights.Weights.{Weights}
use Rattle.fvn_weights_reading.specs.Reading.{IsWeights}
use Rattle.fvn_cmd.specs.declared.status.Status.{Status}
use Rattle.fvn_cmd.specs.Asking.{Word, weights_word}
use Rattle.fvn_cmd.specs.Refusing.{IsReply}
use Rattle.fvn_cmd_terminates.specs.Weighings.{TellsWeighing}

-- the word of `terminates`: weights
abbrev pub terminates_words : List ℕ → List Word
terminates_words word = weights_word word ∷ []

module _ (bytes : List ℕ) where
  -- the bytes are loaded as this module, and in it the word is these weights
  pub record IsToBeWeighed (word : List ℕ) (m : Contents) (w : Weights) : Type 0 where
    pub module_text : IsLoaded bytes m
    pub weights_text : IsWeights m.signature m.names word w

  -- this status and this text tell what the weights show
  abbrev pub IsTerminatesAnswer : List ℕ → Status → List ℕ → Type 0
  IsTerminatesAnswer word status text =
      (m : Contents) × (w : Weights) × (IsToBeWeighed word m w × TellsWeighing m w status text)

  -- this status with this text replies to `terminates` over the bytes of a module and a word
  abbrev pub IsTerminatesReply : List ℕ → Status → List ℕ → Type 0
  IsTerminatesReply word = IsReply bytes (terminates_words word) (IsTerminatesAnswer word)
