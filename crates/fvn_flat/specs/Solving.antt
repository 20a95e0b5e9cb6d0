-- What a solver modulo the axioms is given, and what its answer promises.
use Rattle.std.specs.Prelude.{◌≡◌, ◌≤◌, ◌<◌, ◌↔◌, ◌⊎◌, ℕ, ◌+◌, true, List, length, map, sum_by, Some, All, Contains}
use Rattle.fvn_base.specs.declared.limits.TheConstants.{MINIMAL_SOLUTIONS, FIRST_FRESH}
use Rattle.fvn_terms.specs.declared.plain.Var.{Var}
use Rattle.fvn_terms.specs.declared.plain.OpId.{OpId}
use Rattle.fvn_terms.specs.declared.declarations.Declarations.{Declarations}
use Rattle.fvn_terms.specs.Term.{Term}
use Rattle.fvn_terms.specs.Substitution.{Substitution, Occurs}
use Rattle.fvn_terms.specs.Unifiers.{Problem, IsUnifier}
use Rattle.fvn_forms.specs.Flat.{FlatTerm, plain, symbols}
use Rattle.fvn_forms.specs.Canon.{canon}
use Rattle.fvn_lindio.specs.declared.system.System.{System}
use Rattle.fvn_lindio.specs.Systems.{rows_of}
use Rattle.fvn_lindio.specs.Refusals.{IsTooMany, IsTooWide}
use Rattle.fvn_flat.specs.Bindings.{Bindings, bound, value, BindsOnce, BindingsFit}
use Rattle.fvn_flat.specs.Fits.{Fits}
use Rattle.fvn_flat.specs.Problems.{variables_of, plain_pairs, IsProblem}
use Rattle.fvn_flat.specs.Partitions.{IsPartition}
use Rattle.fvn_flat.specs.SumSystems.{IsSumSystem}
use Rattle.fvn_flat.specs.SolvedLists.{unfolded, IsSolvedList}
use Rattle.fvn_flat.specs.OneAnswer.{IsCompleteFor, IsApartFor}
use Rattle.fvn_flat.specs.declared.solver.Pairs.{Pairs}
use Rattle.fvn_flat.specs.declared.solver.Solved.{Solved}
use Rattle.fvn_flat.specs.declared.solver.SolveEnd.{SolveEnd}
use Rattle.fvn_flat.specs.declared.solver.SolveEnd.TheVariants.{Complete, Basis, Unifiers, Size}
use Rattle.fvn_flat.specs.declared.solver.SizeCause.{SizeCause}
use Rattle.fvn_flat.specs.declared.solver.SizeCause.TheVariants.{Problem as OfProblem, Binding, Term as OfTerm}

-- pairs of flat forms
abbrev pub FlatPairs : Type 0
FlatPairs = List (FlatTerm × FlatTerm)

-- the symbols of all sides together
abbrev pub symbols_of_pairs : FlatPairs → ℕ
symbols_of_pairs pairs = sum_by (λ p. symbols p.0 + symbols p.1) pairs

-- what pairs stand for as a substitution on terms: a variable without a pair stays
abbrev pub substitution : Bindings → Substitution
substitution s x = plain (value s x)

-- some prefix of the system's rows has too many minimal solutions, or one with too large a component
abbrev pub IsRefused : System → Type 0
IsRefused s = (k : ℕ) × (IsTooMany s.columns (rows_of s) MINIMAL_SOLUTIONS k ⊎ IsTooWide s.columns (rows_of s) MINIMAL_SOLUTIONS k)

-- the problem that flat pairs are
abbrev pub problem_of : Pairs → Problem
problem_of given = plain_pairs given.pairs

-- flat pairs, the sides of each of one kind, whose fresh variables have numbers below the first that a solver may use
pub record IsGiven (d : Declarations) (given : Pairs) (first : ℕ) : Type 0 where
  pub fit : All (λ p. Fits d p.0 × Fits d p.1) given.pairs
  pub kinds : IsProblem d (problem_of given)
  pub numbers : (x : Var) → Contains (variables_of (problem_of given)) x → x.fresh ≡ true → x.name < first
  pub small : first ≤ FIRST_FRESH

-- just the variables of the problem are bound
abbrev pub Binds : Problem → Bindings → Type 0
Binds problem s = (x : Var) → Contains (variables_of problem) x ↔ ((t : FlatTerm) × (bound s x ≡ Some t))

-- every variable in a value is fresh and has a number from first up to below next
abbrev pub IsNumbered : ℕ → ℕ → Problem → Bindings → Type 0
IsNumbered first next problem s = (x y : Var) → Contains (variables_of problem) x →
    Occurs y (plain (value s x)) → (y.fresh ≡ true) × (first ≤ y.name) × (y.name < next)

-- what an answer promises, one promise at a time
module _ (d : Declarations) (given : Pairs) where
  -- each member is a unifier
  abbrev pub AreUnifiers : Solved → Type 0
  AreUnifiers r = All (λ s. IsUnifier d (problem_of given) (substitution s)) r.unifiers

  -- each may be drawn for the problem
  abbrev pub AreDrawn : (Problem → Substitution → Type 0) → Solved → Type 0
  AreDrawn drawn r = All (λ s. drawn (problem_of given) (substitution s)) r.unifiers

  -- each binds just the problem's variables, each once, to flat forms of their kinds
  abbrev pub AreBindings : Solved → Type 0
  AreBindings r = All (λ s. Binds (problem_of given) s × BindsOnce s × BindingsFit d s) r.unifiers

  -- their variables are new, with numbers from the first to below the next
  abbrev pub AreNumbered : ℕ → Solved → Type 0
  AreNumbered first r = All (IsNumbered first r.next_fresh (problem_of given)) r.unifiers

  -- none is an instance of another
  abbrev pub AreApart : Solved → Type 0
  AreApart r = IsApartFor d (problem_of given) (map substitution r.unifiers)

  -- at Complete every unifier is an instance of one of them
  abbrev pub AreComplete : Solved → Type 0
  AreComplete r = r.end ≡ Complete → IsCompleteFor d (problem_of given) (map substitution r.unifiers)

  -- the system is f's sum system of the problem under a partition, and it is refused
  pub record IsBasisCause (f : OpId) (system : System) : Type 0 where
    pub class : Term → ℕ
    pub partition : IsPartition d (problem_of given) class
    pub columns : List ℕ
    pub is_system : IsSumSystem d (problem_of given) class f columns system
    pub refused : IsRefused system

  -- the list is a solved list of the problem under a partition, and unfolds to over limit symbols at a variable of the problem
  pub record IsTooLarge (limit : ℕ) (bindings : Bindings) : Type 0 where
    pub class : Term → ℕ
    pub partition : IsPartition d (problem_of given) class
    pub solved : IsSolvedList d (problem_of given) class bindings
    pub variable : Var
    pub listed : Contains (variables_of (problem_of given)) variable
    pub large : limit < symbols (canon d (unfolded bindings variable))

  -- the problem, or what a solved list of it unfolds to, has over limit symbols
  abbrev pub IsSizeCause : ℕ → SizeCause → Type 0
  IsSizeCause limit (OfProblem problem) = (problem ≡ given) × (limit < symbols_of_pairs given.pairs)
  IsSizeCause limit (Binding list) = IsTooLarge limit list.bindings
  IsSizeCause limit (OfTerm t) = ⊥

  -- why a solver with these limits came to this end, with so many unifiers
  abbrev pub IsCause : (most_unifiers most_symbols count : ℕ) → SolveEnd → Type 0
  IsCause most_unifiers most_symbols count Complete = Unit {0}
  IsCause most_unifiers most_symbols count (Basis f system) = IsBasisCause f system
  IsCause most_unifiers most_symbols count Unifiers = count ≡ most_unifiers
  IsCause most_unifiers most_symbols count (Size cause) = IsSizeCause most_symbols cause

  -- the end of an answer has its cause
  abbrev pub HasCause : ℕ → ℕ → Solved → Type 0
  HasCause most_unifiers most_symbols r = IsCause most_unifiers most_symbols (length r.unifiers) r.end
