-- What is proved of all statements.
use Rattle.std.specs.Prelude.{◌≡◌, List}
use Rattle.fvn_lex.specs.Cut.{Piece}
use Rattle.fvn_module_syntax.specs.declared.statement.Feature.{Feature}
use Rattle.fvn_module_syntax.specs.declared.statement.Statement.{Statement}
use Rattle.fvn_module_syntax.specs.Spelling.{spell_statement}
use Rattle.fvn_module_syntax.specs.Written.{IsWritten}
use Rattle.fvn_module_statements.specs.LeftOut.{IsLeftOut}

-- Pieces are one written statement at most, or one left-out form at most stands first in them, and not both.
pub record StatementsAreDetermined : Type 0 where
  pub one_statement : (st other : Statement) → IsWritten st → IsWritten other → spell_statement st ≡ spell_statement other → st ≡ other
  pub one_form : (f g : Feature) (ps : List Piece) → IsLeftOut f ps → IsLeftOut g ps → f ≡ g
  pub apart : (f : Feature) (st : Statement) → IsWritten st → IsLeftOut f (spell_statement st) → ⊥
