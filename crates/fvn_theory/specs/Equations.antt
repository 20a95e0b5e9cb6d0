-- Equations as pairs of terms, and what is asked of each.
use Rattle.std.specs.Prelude.{◌≡◌, ◌≤◌, false, List, map}
use Rattle.fvn_base.specs.declared.limits.TheConstants.{TEXT_SYMBOLS}
use Rattle.fvn_terms.specs.declared.plain.Var.{Var}
use Rattle.fvn_terms.specs.declared.plain.SortId.{SortId}
use Rattle.fvn_terms.specs.declared.declarations.Declarations.{Declarations}
use Rattle.fvn_terms.specs.Term.{Term, nodes}
use Rattle.fvn_terms.specs.Plain.{term}
use Rattle.fvn_terms.specs.Substitution.{Occurs}
use Rattle.fvn_terms.specs.Signature.{HasKind}
use Rattle.fvn_terms.specs.Theory.{Equations}
use Rattle.fvn_theory.specs.declared.equation.Equation.{Equation}

-- the sides of an equation, as terms
abbrev pub sides_of : Equation → Term × Term
sides_of e = (term e.left, term e.right)

-- equations, as pairs of terms
abbrev pub equations_of : List Equation → Equations
equations_of equations = map sides_of equations

-- Both sides are well-kinded and of one kind, within the limit of symbols; no variable stands on the right side alone,
-- and none is a new one.
pub record IsReadableEquation (d : Declarations) (e : Equation) : Type 0 where
  pub kind : SortId
  pub left : HasKind d (term e.left) kind
  pub right : HasKind d (term e.right) kind
  pub brings_none : (x : Var) → Occurs x (term e.right) → Occurs x (term e.left)
  pub not_fresh : (x : Var) → Occurs x (term e.left) → x.fresh ≡ false
  pub left_small : nodes (term e.left) ≤ TEXT_SYMBOLS
  pub right_small : nodes (term e.right) ≤ TEXT_SYMBOLS
