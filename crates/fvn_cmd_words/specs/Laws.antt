-- The law of words.
use Rattle.std.specs.Prelude.{◌≡◌, List}
use Rattle.fvn_cmd_words.specs.Words.{Word, Command, IsCommand}

-- words are at most one command
abbrev pub WordsAreOneCommand : Type 0
WordsAreOneCommand = (words : List Word) (a b : Command) → IsCommand words a → IsCommand words b → a ≡ b
