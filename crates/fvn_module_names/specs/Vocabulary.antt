-- The names that statements may use.
use Rattle.std.specs.Prelude.{List}
use Rattle.fvn_terms.specs.declared.plain.SortId.{SortId}
use Rattle.fvn_syntax.specs.Pieces.{Text}
use Rattle.fvn_module_syntax.specs.declared.statement.Statement.{Statement}
use Rattle.fvn_module_names.specs.Names.{sorts_of, operators_of}
use Rattle.fvn_module_names.specs.Order.{kinds_in}

-- the sorts and operators of a module, and the kind of each sort and then of each kind
pub record Vocabulary : Type 0 where
  pub sorts : List Text
  pub ops : List Text
  pub kinds : List SortId

-- those that statements declare
abbrev pub vocabulary_of : List Statement → Vocabulary
vocabulary_of sts = record { sorts = sorts_of sts; ops = operators_of sts; kinds = kinds_in sts }
