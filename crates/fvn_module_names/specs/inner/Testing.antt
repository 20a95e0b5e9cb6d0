-- One statement, tested behind what earlier ones declare.
use Rattle.std.specs.Prelude.{◌≡◌, ℕ, true, false, List, []}
use Rattle.fvn_syntax.specs.Pieces.{Text}
use Rattle.fvn_syntax.specs.declared.names.Variables.{Variables}
use Rattle.fvn_module_syntax.specs.declared.statement.Statement.{Statement}
use Rattle.fvn_module_names.specs.declared.fault.NameFault.{NameFault}
use Rattle.fvn_module_names.specs.declared.fault.NameFault.TheVariants.{UnknownName, Twice, NoMemory}
use Rattle.fvn_module_names.specs.Names.{operators_in, constants_in, operators_of, constants_of, with_texts}
use Rattle.fvn_module_names.specs.Variables.{no_variables, with_declared, variables_of}
use Rattle.fvn_module_names.specs.Vocabulary.{Vocabulary}
use Rattle.fvn_module_names.specs.Faults.{names_unknown_after, declares_twice_after}

-- what earlier statements declare
pub record Past : Type 0 where
  pub operators : List Text
  pub constants : List Text
  pub variables : Variables

-- nothing
abbrev pub no_past : Past
no_past = record { operators = []; constants = []; variables = no_variables }

module _ (v : Vocabulary) where
  -- what these statements declare
  abbrev pub past : List Statement → Past
  past sts = record { operators = operators_of sts; constants = constants_of sts; variables = variables_of v.sorts v.kinds sts }

  -- that with what one more declares
  abbrev pub with_past : Past → Statement → Past
  with_past p st = record {
    operators = with_texts p.operators (operators_in st);
    constants = with_texts p.constants (constants_in st);
    variables = with_declared v.sorts v.kinds p.variables st;
  }

  -- the statement is without a fault
  abbrev pub Passes : Past → Statement → Type 0
  Passes p st = (names_unknown_after v.sorts v.ops v.kinds p.operators st ≡ false) × (declares_twice_after v.sorts v.ops v.kinds p.constants p.variables st ≡ false)

  -- the statement with this number is at fault
  abbrev pub IsFault : Past → Statement → ℕ → NameFault → Type 0
  IsFault p st n (UnknownName k) = (k ≡ n) × (names_unknown_after v.sorts v.ops v.kinds p.operators st ≡ true)
  IsFault p st n (Twice k) = (k ≡ n) × (names_unknown_after v.sorts v.ops v.kinds p.operators st ≡ false) × (declares_twice_after v.sorts v.ops v.kinds p.constants p.variables st ≡ true)
  IsFault p st n NoMemory = ⊥
