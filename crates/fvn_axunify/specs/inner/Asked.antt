-- What is asked: a problem with its variables.
use Rattle.std.specs.Prelude.{◌↔◌, ℕ, List, [], ◌∷◌, Contains}
use Rattle.fvn_terms.specs.declared.plain.Var.{Var}
use Rattle.fvn_terms.specs.declared.declarations.Declarations.{Declarations}
use Rattle.fvn_forms.specs.Good.{IsGood}
use Rattle.fvn_flat.specs.Variables.{with_variables}
use Rattle.fvn_flat.specs.Problems.{variables_of}
use Rattle.fvn_flat.specs.Solving.{FlatPairs, IsGiven, problem_of}
use Rattle.fvn_flat.specs.declared.solver.Pairs.{Pairs}

-- the variables with those of pairs that are not there yet
abbrev pub with_pairs : FlatPairs → List Var → List Var
with_pairs [] vars = vars
with_pairs (p ∷ pairs) vars = with_pairs pairs (with_variables p.1 (with_variables p.0 vars))

-- these are the variables of the problem
abbrev pub AreVariablesOf : Pairs → List Var → Type 0
AreVariablesOf given vars = (x : Var) → Contains vars x ↔ Contains (variables_of (problem_of given)) x

-- the problem may be given to a solver, in a good signature, and these are its variables
pub record IsAsked (d : Declarations) (given : Pairs) (vars : List Var) (first : ℕ) : Type 0 where
  pub good : IsGood d
  pub is_given : IsGiven d given first
  pub variables : AreVariablesOf given vars
