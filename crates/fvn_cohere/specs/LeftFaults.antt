-- What is wrong with the left sides of equations.
use Rattle.std.specs.Prelude.{◌≡◌, ◌+◌, ℕ, ◌∷◌, ◌++◌, length, Contains}
use Rattle.fvn_terms.specs.declared.declarations.Declarations.{Declarations}
use Rattle.fvn_terms.specs.Term.{Term}
use Rattle.fvn_terms.specs.Theory.{Equations}
use Rattle.fvn_rewrite_laws.specs.Choices.{InstancesFit}
use Rattle.fvn_rewrite_laws.specs.Collapses.{CollapsesToVariable, CollapsesToIdentity}
use Rattle.fvn_cohere.specs.declared.faults.LeftFault.{LeftFault}
use Rattle.fvn_cohere.specs.declared.faults.LeftFault.TheVariants.{TooManyInstances, BecomesVariable, BecomesIdentity}

module _ (d : Declarations) where
  -- the left side has few instances, and becomes neither a variable nor an identity
  pub record IsHarmless (t : Term) : Type 0 where
    pub few : InstancesFit d t
    pub no_variable : CollapsesToVariable d t → ⊥
    pub no_identity : CollapsesToIdentity d t → ⊥

  -- no left side is at fault
  abbrev pub AreHarmless : Equations → Type 0
  AreHarmless equations = (equation : Term × Term) → Contains equations equation → IsHarmless equation.0

  -- this is wrong with the left side of equation n: too many instances, or else a variable, or else an identity
  abbrev pub IsLeftFault : ℕ → Term → LeftFault → Type 0
  IsLeftFault n t (TooManyInstances k) = (k ≡ n) × (InstancesFit d t → ⊥)
  IsLeftFault n t (BecomesVariable k) = (k ≡ n) × (InstancesFit d t × CollapsesToVariable d t)
  IsLeftFault n t (BecomesIdentity k) = (k ≡ n) × (InstancesFit d t × ((CollapsesToVariable d t → ⊥) × CollapsesToIdentity d t))

  -- of the equations, numbered from 1, the first whose left side is at fault has this one
  pub record IsFirstLeftFault (equations : Equations) (fault : LeftFault) : Type 0 where
    pub before : Equations
    pub equation : Term × Term
    pub after : Equations
    pub split : equations ≡ before ++ (equation ∷ after)
    pub earlier : AreHarmless before
    pub wrong : IsLeftFault (length before + 1) equation.0 fault
