-- What a search for unifiers in a theory is given, and what it promises.
-- S. Escobar, R. Sasse and J. Meseguer, Folding variant narrowing and optimal variant termination, 2012.
use Rattle.std.specs.Prelude.{◌≡◌, ◌≢◌, ◌≤◌, ℕ, map, All, Any, Contains}
use Rattle.fvn_terms.specs.declared.plain.Var.{Var}
use Rattle.fvn_terms.specs.declared.declarations.Declarations.{Declarations}
use Rattle.fvn_terms.specs.Substitution.{Substitution}
use Rattle.fvn_terms.specs.Unifiers.{Problem}
use Rattle.fvn_terms.specs.Rewriting.{IsTerminating, IsConfluent}
use Rattle.fvn_flat.specs.Bindings.{Bindings, value, BindingsFit}
use Rattle.fvn_flat.specs.OneAnswer.{IsApartFor}
use Rattle.fvn_flat.specs.Problems.{variables_of, plain_pairs, IsProblem}
use Rattle.fvn_flat.specs.Solving.{FlatPairs, substitution}
use Rattle.fvn_rewrite_laws.specs.Normalised.{counted}
use Rattle.fvn_exploring.specs.declared.limits.Limits.{Limits}
use Rattle.fvn_exploring.specs.declared.ends.Explored.{Explored}
use Rattle.fvn_exploring.specs.declared.ends.ExpandEnd.{ExpandEnd}
use Rattle.fvn_exploring.specs.declared.ends.ExploreEnd.{ExploreEnd}
use Rattle.fvn_exploring.specs.declared.ends.ExploreEnd.TheVariants.{Complete}
use Rattle.fvn_exploring.specs.Setting.{Setting}
use Rattle.fvn_exploring.specs.Ends.{explore_end}
use Rattle.fvn_exploring.specs.Explorations.{IsExploration, IsStartWithin, ReachesPast}
use Rattle.fvn_vunify.specs.declared.solved.SolvedModulo.{SolvedModulo}
use Rattle.fvn_vunify.specs.Sides.{sides_in_turn}
use Rattle.fvn_vunify.specs.Solutions.{IsIrreducibleUnifier, IsInstanceOfSome, AreAllIrreducibleUnifiers}
use Rattle.fvn_vunify.specs.Causes.{IsPairsCause, MeetsBound}

-- a solver with this signature and these limits is one for the setting
pub record IsSolverFor (g : Setting) (d : Declarations) (unifiers symbols : ℕ) : Type 0 where
  pub signature : d ≡ g.declarations
  pub unifiers_are : unifiers ≡ g.unifiers
  pub symbols_are : symbols ≡ g.bounds.size

-- what the first may draw for a problem, the second may draw too
abbrev pub DrawsWithin : (Problem → Substitution → Type 0) → (Problem → Substitution → Type 0) → Type 0
DrawsWithin drawn may = (problem : Problem) (s : Substitution) → drawn problem s → may problem s

-- the sides of the pairs, each pair of one kind, were explored
pub record IsExploredFor (g : Setting) (drawn : Problem → Substitution → Type 0) (pairs : FlatPairs)
    (limits : Limits) (x : Explored) : Type 0 where
  pub kinds : IsProblem g.declarations (plain_pairs pairs)
  pub exploration : IsExploration g drawn (sides_in_turn pairs) limits x

-- the sides of some pairs were explored, within some limits
pub record IsOfSomePairs (g : Setting) (drawn : Problem → Substitution → Type 0) (x : Explored) : Type 0 where
  pub pairs : FlatPairs
  pub limits : Limits
  pub explored : IsExploredFor g drawn pairs limits x

-- each variable of the problem is bound to a form with no more symbols than are allowed
abbrev pub HasSmallValues : Setting → Problem → Bindings → Type 0
HasSmallValues g problem s = (x : Var) → Contains (variables_of problem) x → counted (value s x) ≤ g.bounds.size

-- the end is that at which the pairs of one of the variants stop
pub record StopsAtPairs (g : Setting) (drawn : Problem → Substitution → Type 0) (x : Explored)
    (end : ExploreEnd) : Type 0 where
  pub stop : ExpandEnd
  pub is : end ≡ explore_end stop
  pub cause : Any (λ v. IsPairsCause g drawn v stop) x.variants

module _ (g : Setting) (drawn : Problem → Substitution → Type 0) (pairs : FlatPairs) where
  module _ (limits : Limits) (x : Explored) where
    -- s is within so many steps, which the exploration covers
    pub record IsWithinExplored (s : Substitution) : Type 0 where
      pub most : ℕ
      pub reaches : ReachesPast g drawn (sides_in_turn pairs) limits x most
      pub within : IsStartWithin g (sides_in_turn pairs) most s

    -- what is promised of the answer for an exploration of the sides of the pairs
    pub record IsSolvedModulo (r : SolvedModulo) : Type 0 where
      -- Each is a unifier in the theory with irreducible values, under which the fixed terms stay irreducible; it fits,
      -- and its values are not too large.
      pub sound : All (λ s. IsIrreducibleUnifier g (plain_pairs pairs) (substitution s)) r.unifiers
      pub fits : All (BindingsFit g.declarations) r.unifiers
      pub small : All (HasSmallValues g (plain_pairs pairs)) r.unifiers
      -- none is an instance of another modulo the axioms
      pub apart : IsApartFor g.declarations (plain_pairs pairs) (map substitution r.unifiers)
      -- At Complete each such unifier is an instance of one of them; else, where the pairs of no variant meet a bound,
      -- those that are within so many steps as the exploration covers.
      pub complete : r.end ≡ Complete
          → IsTerminating g.declarations g.equations → IsConfluent g.declarations g.equations
          → AreAllIrreducibleUnifiers g (plain_pairs pairs) (map substitution r.unifiers)
      pub within : IsConfluent g.declarations g.equations → All (λ v. MeetsBound g drawn v → ⊥) x.variants
          → (s : Substitution) → IsIrreducibleUnifier g (plain_pairs pairs) s → IsWithinExplored s
          → IsInstanceOfSome g (plain_pairs pairs) (map substitution r.unifiers) s
      -- the exploration's end comes first; else every other end than Complete is one of the pairs of a variant
      pub first : x.end ≢ Complete → r.end ≡ x.end
      pub cause : x.end ≡ Complete → r.end ≢ Complete → StopsAtPairs g drawn x r.end

-- for all pairs whose sides may have been explored so
abbrev pub IsSolvedFor : Setting → (Problem → Substitution → Type 0) → Explored → SolvedModulo → Type 0
IsSolvedFor g drawn x r =
    (pairs : FlatPairs) (limits : Limits) → IsExploredFor g drawn pairs limits x
    → IsSolvedModulo g drawn pairs limits x r
