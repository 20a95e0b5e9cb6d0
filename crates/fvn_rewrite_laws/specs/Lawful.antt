-- What is kept of equations by whatever rewrites with them.
use Rattle.std.specs.Prelude.{◌⊎◌}
use Rattle.fvn_terms.specs.declared.plain.Var.{Var}
use Rattle.fvn_terms.specs.declared.declarations.Declarations.{Declarations}
use Rattle.fvn_terms.specs.Term.{Term, var}
use Rattle.fvn_terms.specs.Signature.{IsTerm}
use Rattle.fvn_terms.specs.Theory.{Equations}
use Rattle.fvn_terms.specs.Rewriting.{IsReducible, IsIrreducible, BringsNoVariable}
use Rattle.fvn_rewrite_laws.specs.Kinds.{HaveOneKind}

-- Each equation has sides of one kind, and none brings a variable; variables are irreducible, and of each well-kinded
-- term it is decided whether it is reducible.
pub record AreLawful (d : Declarations) (equations : Equations) : Type 0 where
  pub one_kind : HaveOneKind d equations
  pub brings_none : BringsNoVariable equations
  pub variables : (x : Var) → IsTerm d (var x) → IsIrreducible d equations (var x)
  pub decided : (t : Term) → IsTerm d t → IsReducible d equations t ⊎ IsIrreducible d equations t
