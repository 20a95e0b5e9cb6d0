-- How modules, and the words of commands, are refused.
use Rattle.std.specs.Prelude.{◌≡◌, ◌⊎◌, ℕ, List, Some}
use Rattle.fvn_module.specs.declared.fault.ModuleFault.{ModuleFault}
use Rattle.fvn_module.specs.Contents.{Contents}
use Rattle.fvn_module_loading.specs.Loading.{IsLoaded, IsLoadFault}
use Rattle.fvn_problems.specs.declared.fault.ProblemFault.{ProblemFault}
use Rattle.fvn_cmd_texts.specs.Refusals.{refusal_text}
use Rattle.fvn_cmd_texts.specs.ProblemRefusals.{problem_text}
use Rattle.fvn_cmd.specs.declared.status.Status.{Status}
use Rattle.fvn_cmd.specs.declared.status.Status.TheVariants.{ModuleRefused, ProblemRefused}
use Rattle.fvn_cmd.specs.Texts.{line}
use Rattle.fvn_cmd.specs.Asking.{Word, IsFirstFault}

-- the line of this refusal of a module
pub record IsRefusalLine (fault : ModuleFault) (text : List ℕ) : Type 0 where
  pub refusal : List ℕ
  pub told : refusal_text fault ≡ Some refusal
  pub text_is : text ≡ line refusal

-- the line of this refusal of a word
pub record IsProblemRefusalLine (fault : ProblemFault) (text : List ℕ) : Type 0 where
  pub refusal : List ℕ
  pub told : problem_text fault ≡ Some refusal
  pub text_is : text ≡ line refusal

module _ (bytes : List ℕ) where
  -- the line of the first fault of the bytes
  pub record IsFirstRefusal (text : List ℕ) : Type 0 where
    pub fault : ModuleFault
    pub first : IsLoadFault bytes fault
    pub line_of : IsRefusalLine fault text

  module _ (words : List Word) where
    -- the line of the first fault of the words, in the module as which the bytes are loaded
    pub record IsFirstWordRefusal (text : List ℕ) : Type 0 where
      pub contents : Contents
      pub loaded : IsLoaded bytes contents
      pub fault : ProblemFault
      pub first : IsFirstFault contents words fault
      pub line_of : IsProblemRefusalLine fault text

    -- this status and this text refuse the bytes, or else the words
    abbrev pub IsRefusal : Status → List ℕ → Type 0
    IsRefusal status text =
        ((status ≡ ModuleRefused) × IsFirstRefusal text) ⊎ ((status ≡ ProblemRefused) × IsFirstWordRefusal text)

    -- this status and this text refuse, or else they are an answer
    abbrev pub IsReply : (Status → List ℕ → Type 0) → Status → List ℕ → Type 0
    IsReply IsAnswer status text = IsRefusal status text ⊎ IsAnswer status text
