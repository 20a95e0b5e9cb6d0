-- Substitutions that unify on kinds, and what each that is given promises.
-- M. E. Stickel, A unification algorithm for associative-commutative functions, 1981.
-- F. Baader and K. U. Schulz, Unification in the union of disjoint equational theories, 1996.
use Rattle.std.specs.Prelude.{◌≡◌, ℕ, ◌<◌, ◌≤◌, true, Contains}
use Rattle.fvn_base.specs.declared.limits.TheConstants.{NEXT_FRESH}
use Rattle.fvn_terms.specs.declared.plain.Var.{Var}
use Rattle.fvn_terms.specs.declared.declarations.Declarations.{Declarations}
use Rattle.fvn_terms.specs.Term.{Term}
use Rattle.fvn_terms.specs.Substitution.{Occurs}
use Rattle.fvn_terms.specs.Signature.{kind, IsSort}
use Rattle.fvn_forms.specs.Flat.{plain, symbols}
use Rattle.fvn_forms.specs.Canon.{canon}
use Rattle.fvn_flat.specs.Bindings.{Bindings, value, BindsOnce, BindingsFit}
use Rattle.fvn_flat.specs.Partitions.{IsPartition}
use Rattle.fvn_flat.specs.Problems.{variables_of}
use Rattle.fvn_flat.specs.Solving.{substitution, problem_of, Binds}
use Rattle.fvn_flat.specs.SolvedLists.{unfolded, IsSolvedList, IsKindUnifier}
use Rattle.fvn_flat.specs.declared.solver.Pairs.{Pairs}

module _ (d : Declarations) (given : Pairs) where
  -- g gives each variable of the problem what a solved list of the problem unfolds it to
  pub record IsUnfolding (g : Bindings) : Type 0 where
    pub class : Term → ℕ
    pub partition : IsPartition d (problem_of given) class
    pub list : Bindings
    pub solved : IsSolvedList d (problem_of given) class list
    pub unfolds : (x : Var) → Contains (variables_of (problem_of given)) x → value g x ≡ canon d (unfolded list x)

  -- a new variable with a number from first on, which has a kind as its sort
  pub record IsNewFrom (first : ℕ) (z : Var) : Type 0 where
    pub fresh : z.fresh ≡ true
    pub above : first ≤ z.name
    pub below : z.name < NEXT_FRESH
    pub sort : IsSort d z.sort
    pub is_kind : kind d z.sort ≡ z.sort

  -- g makes both sides of each pair equal modulo the axioms, every variable being read with its kind; it binds just the problem's
  -- variables, each once, to flat forms of their kinds with at most so many symbols, over new variables; and it is an unfolding
  pub record IsGivenOnKinds (first size : ℕ) (g : Bindings) : Type 0 where
    pub unifies : IsKindUnifier d (problem_of given) (substitution g)
    pub binds : Binds (problem_of given) g
    pub once : BindsOnce g
    pub fit : BindingsFit d g
    pub small : (x : Var) → Contains (variables_of (problem_of given)) x → symbols (value g x) ≤ size
    pub new : (x z : Var) → Contains (variables_of (problem_of given)) x → Occurs z (plain (value g x)) → IsNewFrom first z
    pub unfolded_from : IsUnfolding g
