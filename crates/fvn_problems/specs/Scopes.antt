-- What problems, term texts and binding texts are read in.
use Rattle.std.specs.Prelude.{true, false}
use Rattle.fvn_terms.specs.declared.declarations.Declarations.{Declarations}
use Rattle.fvn_syntax.specs.declared.names.Names.{Names}
use Rattle.fvn_syntax.specs.Scope.{Scope, IsNumbered}
use Rattle.fvn_syntax.specs.Laws.{IsFitting}

-- problems and term texts: no name of a variable begins with `#`
abbrev pub guarded : Declarations → Names → Scope
guarded d names = record { declarations = d; names = names; guarded = true }

-- binding texts: names of variables may begin with `#`
abbrev pub unguarded : Declarations → Names → Scope
unguarded d names = record { declarations = d; names = names; guarded = false }

-- the names are those of the declarations: sorts and operators have numbers, and each stands for one that is
-- declared
pub record AreNamesOf (d : Declarations) (names : Names) : Type 0 where
  pub numbered : IsNumbered names
  pub fitting : IsFitting (guarded d names)
