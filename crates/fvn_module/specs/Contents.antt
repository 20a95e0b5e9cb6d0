-- What a module holds.
use Rattle.std.specs.Prelude.{List, false}
use Rattle.fvn_terms.specs.declared.declarations.Declarations.{Declarations}
use Rattle.fvn_syntax.specs.declared.names.Names.{Names}
use Rattle.fvn_syntax.specs.Scope.{Scope}
use Rattle.fvn_theory.specs.declared.equation.Equation.{Equation}

-- a signature, names and equations
pub record Contents : Type 0 where
  pub signature : Declarations
  pub names : Names
  pub equations : List Equation

-- the scope of a module's own texts, in which names of variables may begin with `#`
abbrev pub scope_of : Declarations → Names → Scope
scope_of d names = record { declarations = d; names = names; guarded = false }
