-- The numbers at which the product ends, each written out.
use Rattle.std.specs.Prelude.{◌≡◌}
use Rattle.fvn_base.specs.declared.limits.TheConstants.{MODULE_BYTES, SORTS, OPERATORS, ARGUMENTS, EQUATIONS}
use Rattle.fvn_base.specs.declared.limits.TheConstants.{IDENTITY_INSTANCES, SORT_INSTANCES, TEXT_SYMBOLS, TERM_SYMBOLS}
use Rattle.fvn_base.specs.declared.limits.TheConstants.{MINIMAL_SOLUTIONS, COMPONENT, COLUMNS, UNIFIERS, FIRST_FRESH}
use Rattle.fvn_base.specs.declared.limits.TheConstants.{NEXT_FRESH, EXPANDED_FRESH, NAMES, FIRST_KIND, PIECE, DEPTH}

-- each limit is this number
pub record AreLimits : Type 0 where
  pub module_bytes : MODULE_BYTES ≡ 1048576
  pub sorts : SORTS ≡ 64
  pub operators : OPERATORS ≡ 256
  pub arguments : ARGUMENTS ≡ 8
  pub equations : EQUATIONS ≡ 256
  pub identity_instances : IDENTITY_INSTANCES ≡ 4096
  pub sort_instances : SORT_INSTANCES ≡ 16777216
  pub text_symbols : TEXT_SYMBOLS ≡ 400
  pub term_symbols : TERM_SYMBOLS ≡ 1000
  pub minimal_solutions : MINIMAL_SOLUTIONS ≡ 24
  pub component : COMPONENT ≡ 65535
  pub columns : COLUMNS ≡ 1000
  pub unifiers : UNIFIERS ≡ 4096
  pub first_fresh : FIRST_FRESH ≡ 1000000
  pub next_fresh : NEXT_FRESH ≡ 2000000
  pub expanded_fresh : EXPANDED_FRESH ≡ 2000000000
  pub names : NAMES ≡ 65536
  pub first_kind : FIRST_KIND ≡ 32768
  pub piece : PIECE ≡ 4096
  pub depth : DEPTH ≡ 1000
