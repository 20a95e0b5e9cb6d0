-- Substitutions that agree on terms, and those that another one takes back.
use Rattle.std.specs.Prelude.{List, Contains}
use Rattle.fvn_terms.specs.declared.plain.Var.{Var}
use Rattle.fvn_terms.specs.declared.declarations.Declarations.{Declarations}
use Rattle.fvn_terms.specs.Term.{Term}
use Rattle.fvn_terms.specs.Substitution.{Substitution, apply, Occurs}
use Rattle.fvn_terms.specs.Equality.{BEqual}
use Rattle.fvn_terms.specs.Variants.{OccursInSome}

module _ (d : Declarations) where
  -- what occurs in the term has the same values, modulo the axioms
  abbrev pub AgreeOn : Term → Substitution → Substitution → Type 0
  AgreeOn t s c = (x : Var) → Occurs x t → BEqual d (s x) (c x)

  -- what occurs in some term of the list has the same values, modulo the axioms
  abbrev pub AgreeOnAll : List Term → Substitution → Substitution → Type 0
  AgreeOnAll ts s c = (x : Var) → OccursInSome x ts → BEqual d (s x) (c x)

  -- these variables have the same values, modulo the axioms
  abbrev pub AgreeOnVariables : List Var → Substitution → Substitution → Type 0
  AgreeOnVariables vars s c = (x : Var) → Contains vars x → BEqual d (s x) (c x)

  -- modulo the axioms, `back` takes the instance of the term back to the term
  abbrev pub TakesBack : Substitution → Substitution → Term → Type 0
  TakesBack back r t = BEqual d (apply back (apply r t)) t
