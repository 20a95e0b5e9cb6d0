-- What a combination of solvers is asked: a problem, its table of nodes, the first new number, and the most symbols.
use Rattle.std.specs.Prelude.{◌≡◌, ℕ, ◌<◌, ◌-◌, ◌^◌, ◌≤◌, Bool, true, false, List}
use Rattle.fvn_base.specs.declared.limits.TheConstants.{TERM_SYMBOLS}
use Rattle.fvn_terms.specs.declared.plain.Var.{Var}
use Rattle.fvn_terms.specs.declared.declarations.Declarations.{Declarations}
use Rattle.fvn_terms.specs.Substitution.{Substitution}
use Rattle.fvn_forms.specs.Good.{IsGood}
use Rattle.fvn_flat.specs.Problems.{variables_of}
use Rattle.fvn_flat.specs.Solving.{IsGiven, problem_of, symbols_of_pairs}
use Rattle.fvn_flat.specs.SolvedLists.{IsKindUnifier}
use Rattle.fvn_flat.specs.declared.solver.Pairs.{Pairs}
use Rattle.fvn_combine_nodes.specs.Table.{NodeTable, IsWellMade, IsTableOf}
use Rattle.fvn_combine_drawing.specs.CombineBoundsNarrow.{KeepsSorts}
use Rattle.fvn_combine_loose.specs.MoreGeneral.{IsMoreGeneral}
use Rattle.fvn_combine_drawing.specs.CombineTriangularReady.{AreVariablesOf}

-- the problem in its signature, with its table, the variables of this, the first number of a new variable, the most symbols of a value,
-- whether the sorts of the problem's variables are heeded, and whether of each unifier one that is more general is enough
pub record Combining : Type 0 where
  pub declarations : Declarations
  pub given : Pairs
  pub first : ℕ
  pub size : ℕ
  pub sorted : Bool
  pub general : Bool
  pub table : NodeTable
  pub variables : List Var

-- they belong together, and the problem is small
pub record IsCombining (k : Combining) : Type 0 where
  pub good : IsGood k.declarations
  pub is_given : IsGiven k.declarations k.given k.first
  pub small : symbols_of_pairs k.given.pairs ≤ TERM_SYMBOLS
  pub well_made : IsWellMade k.table
  pub table_of : IsTableOf k.declarations (problem_of k.given) k.table
  pub variables_of : AreVariablesOf k.table k.variables
  pub limit : k.size < 2 ^ 64 - 1

-- u is a unifier that is asked for: one on kinds, and where sorts are heeded one that gives the problem's variables terms of their sorts
pub record IsWanted (k : Combining) (u : Substitution) : Type 0 where
  pub unifies : IsKindUnifier k.declarations (problem_of k.given) u
  pub keeps_sorts : k.sorted ≡ true → KeepsSorts k.declarations (variables_of (problem_of k.given)) u

-- v stands for u: it is asked for, and more general than u; where all unifiers are asked for, it is u itself
pub record StandsFor (k : Combining) (u v : Substitution) : Type 0 where
  pub wanted : IsWanted k v
  pub more_general : IsMoreGeneral k.declarations (variables_of (problem_of k.given)) u v
  pub own : k.general ≡ false → v ≡ u

-- this holds of some unifier that stands for u
abbrev pub HoldsFor : Combining → (Substitution → Type 0) → Substitution → Type 0
HoldsFor k Holds u = (v : Substitution) × StandsFor k u v × Holds v
