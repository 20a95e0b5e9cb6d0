-- Equations whose sides have one kind.
use Rattle.std.specs.Prelude.{Contains}
use Rattle.fvn_terms.specs.declared.plain.Var.{Var}
use Rattle.fvn_terms.specs.declared.plain.SortId.{SortId}
use Rattle.fvn_terms.specs.declared.plain.Plain.{Plain}
use Rattle.fvn_terms.specs.declared.declarations.Declarations.{Declarations}
use Rattle.fvn_terms.specs.Term.{Term}
use Rattle.fvn_terms.specs.Plain.{term}
use Rattle.fvn_terms.specs.Substitution.{Occurs}
use Rattle.fvn_terms.specs.Signature.{HasKind}
use Rattle.fvn_terms.specs.Theory.{Equations}

-- both sides of a pair are well-kinded, and of one kind
abbrev pub AreOfOneKind : Declarations → Plain × Plain → Type 0
AreOfOneKind d p = (k : SortId) × (HasKind d (term p.0) k × HasKind d (term p.1) k)

module _ (d : Declarations) where
  -- both sides are well-kinded terms of one kind
  pub record HasOneKind (equation : Term × Term) : Type 0 where
    pub kind : SortId
    pub left : HasKind d equation.0 kind
    pub right : HasKind d equation.1 kind

  -- each equation has sides of one kind
  abbrev pub HaveOneKind : Equations → Type 0
  HaveOneKind equations = (equation : Term × Term) → Contains equations equation → HasOneKind equation

  -- the sides have one kind, and the right side has no variable of its own
  pub record IsKindedEquation (equation : Term × Term) : Type 0 where
    pub kinds : HasOneKind equation
    pub brings_none : (x : Var) → Occurs x equation.1 → Occurs x equation.0
