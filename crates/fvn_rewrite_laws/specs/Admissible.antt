-- What is asked of equations before their rules are used.
use Rattle.std.specs.Prelude.{Contains}
use Rattle.fvn_terms.specs.declared.declarations.Declarations.{Declarations}
use Rattle.fvn_terms.specs.Term.{Term}
use Rattle.fvn_terms.specs.Theory.{Equations}
use Rattle.fvn_rewrite_laws.specs.Kinds.{IsKindedEquation}
use Rattle.fvn_rewrite_laws.specs.Collapses.{CollapsesToVariable, CollapsesToIdentity}

module _ (d : Declarations) where
  -- sides of one kind, no variable on the right side alone, and a left side that becomes neither a variable nor an identity
  pub record IsAdmissible (equation : Term × Term) : Type 0 where
    pub kinded : IsKindedEquation d equation
    pub no_variable : CollapsesToVariable d equation.0 → ⊥
    pub no_identity : CollapsesToIdentity d equation.0 → ⊥

  -- each equation is admissible
  abbrev pub AreAdmissible : Equations → Type 0
  AreAdmissible equations = (equation : Term × Term) → Contains equations equation → IsAdmissible equation
