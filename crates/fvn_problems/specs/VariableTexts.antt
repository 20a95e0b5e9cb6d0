-- Names of variables that can be written again.
use Rattle.std.specs.Prelude.{◌≡◌, ◌≢◌, false, IsTrue, [], ◌++◌, codes}
use Rattle.fvn_lex.specs.Parts.{goes_through}
use Rattle.fvn_lex.specs.Join.{IsPiece}
use Rattle.fvn_syntax.specs.Pieces.{Text, word, is_reserved}

-- The text has a byte, does not begin with `#`, and is a word with a colon and maybe further bytes of a word
-- behind it.
pub record IsVariableText (x : Text) : Type 0 where
  pub some : x ≢ []
  pub not_reserved : is_reserved x ≡ false
  pub with_colon : (more : Text) → IsTrue (goes_through false more) → IsPiece (word (x ++ (codes ":" ++ more)))
