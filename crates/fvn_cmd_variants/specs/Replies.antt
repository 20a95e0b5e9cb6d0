-- What the program replies to `variants`.
use Rattle.std.specs.Prelude.{◌≡◌, List, [], ◌∷◌, ℕ}
use Rattle.fvn_problems.specs.declared.query.Query.{Query}
use Rattle.fvn_problems.specs.Queries.{IsQuery}
use Rattle.fvn_module.specs.Contents.{Contents}
use Rattle.fvn_module_loading.specs.Loading.{IsLoaded}
use Rattle.fvn_cmd.specs.declared.status.Status.{Status}
use Rattle.fvn_cmd.specs.Asking.{Word, term_word}
use Rattle.fvn_cmd.specs.Refusing.{IsReply}
use Rattle.fvn_cmd.specs.Ends.{status_of_end}
use Rattle.fvn_cmd_words.specs.declared.reach.Reach.{Reach}
use Rattle.fvn_cmd_variants.specs.Solutions.{Found, end_of, IsSolution, Shows}

-- this status with this text answers the term in the module
pub record IsAnswer (m : Contents) (t : Query) (reach : Reach) (status : Status) (text : List ℕ) : Type 0 where
  pub found : Found
  pub solution : IsSolution m t reach found
  pub shown : Shows m t reach found text
  pub status_is : status ≡ status_of_end (end_of reach found)

-- the word of `variants`: a term
abbrev pub variants_words : List ℕ → List Word
variants_words word = term_word word ∷ []

module _ (bytes : List ℕ) where
  -- the bytes are loaded as this module, and in it the word is this term
  pub record HasVariantsAsked (word : List ℕ) (m : Contents) (t : Query) : Type 0 where
    pub module_text : IsLoaded bytes m
    pub term_text : IsQuery m.signature m.names word t

  -- this status and this text answer what is asked
  abbrev pub IsVariantsAnswer : List ℕ → Reach → Status → List ℕ → Type 0
  IsVariantsAnswer word reach status text =
      (m : Contents) × (t : Query) × (HasVariantsAsked word m t × IsAnswer m t reach status text)

  -- this status with this text replies to `variants` over the bytes of a module and a word
  abbrev pub IsVariantsReply : List ℕ → Reach → Status → List ℕ → Type 0
  IsVariantsReply word reach = IsReply bytes (variants_words word) (IsVariantsAnswer word reach)
