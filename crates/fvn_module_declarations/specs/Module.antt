-- What a module declares: its names, and what its signature is made of.
use Rattle.std.specs.Prelude.{List, [], length}
use Rattle.fvn_signature_draft.specs.declared.collected.Collected.{Collected}
use Rattle.fvn_syntax.specs.declared.names.Names.{Names}
use Rattle.fvn_module_syntax.specs.declared.statement.Statement.{Statement}
use Rattle.fvn_module_syntax.specs.declared.form.Form.{Form}
use Rattle.fvn_module_names.specs.Names.{sorts_of, operators_of}
use Rattle.fvn_module_names.specs.Order.{with_pairs, kinds_in}
use Rattle.fvn_module_declarations.specs.Operators.{declarations_in}
use Rattle.fvn_module_names.specs.Variables.{no_variables, variables_of}

-- the sorts, their order and the operators that statements declare
abbrev pub collected_in : List Statement → Collected
collected_in sts = record {
  sorts = length (sorts_of sts);
  below = with_pairs (sorts_of sts) [] sts;
  operators = length (operators_of sts);
  declarations = declarations_in (sorts_of sts) (operators_of sts) sts;
}

-- the names of a module without its variables
abbrev pub names_alone : Form → Names
names_alone m = record {
  module_name = m.name;
  sorts = sorts_of m.statements;
  ops = operators_of m.statements;
  variables = no_variables;
}

-- the names of a module
abbrev pub names_in : Form → Names
names_in m = record {
  module_name = m.name;
  sorts = sorts_of m.statements;
  ops = operators_of m.statements;
  variables = variables_of (sorts_of m.statements) (kinds_in m.statements) m.statements;
}
