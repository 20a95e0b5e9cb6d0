-- What a problem in a module asks of its theory: unifiers modulo the equations.
-- S. Escobar, R. Sasse and J. Meseguer, Folding variant narrowing and optimal variant termination, 2012.
use Rattle.std.specs.Prelude.{ℕ, List, [], ◌∷◌, All, Contains}
use Rattle.fvn_terms.specs.declared.plain.Var.{Var}
use Rattle.fvn_terms.specs.Term.{Term}
use Rattle.fvn_terms.specs.Substitution.{Substitution}
use Rattle.fvn_terms.specs.Unifiers.{Problem as TermPairs}
use Rattle.fvn_terms.specs.CompleteSets.{IsCompleteSet}
use Rattle.fvn_terms.specs.Variants.{IsVariant, IsWithin, Covers}
use Rattle.fvn_terms.specs.Rewriting.{IsIrreducible}
use Rattle.fvn_terms.specs.Theory.{IsTheoryUnifier, IsTheoryInstance}
use Rattle.fvn_flat.specs.Problems.{flat_pairs}
use Rattle.fvn_flat.specs.Solving.{FlatPairs}
use Rattle.fvn_problems.specs.declared.problem.Problem.{Problem}
use Rattle.fvn_module.specs.Contents.{Contents}
use Rattle.fvn_theory.specs.Equations.{equations_of}
use Rattle.fvn_closure.specs.Closing.{Reached}
use Rattle.fvn_cmd.specs.Headline.{Promise}
use Rattle.fvn_cmd_unify.specs.Asked.{pairs_of, IsInstanceOf, DenotesOnVariables}
use Rattle.fvn_cmd_exploring.specs.Searches.{AreTrusted}

-- the left and the right side of each pair in turn
abbrev pub sides_of : TermPairs → List Term
sides_of [] = []
sides_of (p ∷ pairs) = p.0 ∷ p.1 ∷ sides_of pairs

module _ (m : Contents) (p : Problem) where
  -- the pairs in flat form, whose sides are explored
  abbrev pub flattened_pairs : FlatPairs
  flattened_pairs = flat_pairs m.signature (pairs_of p.pairs)

  -- s makes the sides of each pair equal in the theory of the module
  abbrev pub UnifiesInTheory : Substitution → Type 0
  UnifiesInTheory = IsTheoryUnifier m.signature (equations_of m.equations) (pairs_of p.pairs)

  -- and its values on the problem's variables are irreducible
  pub record IsIrreducibleUnifier (s : Substitution) : Type 0 where
    pub unifies : UnifiesInTheory s
    pub values : (x : Var) → Contains p.vars x → IsIrreducible m.signature (equations_of m.equations) (s x)

  -- on the problem's variables, s is in the theory an instance of c
  abbrev pub IsTheoryInstanceOf : Substitution → Substitution → Type 0
  IsTheoryInstanceOf = IsTheoryInstance m.signature (equations_of m.equations) p.vars

  -- no sequence from the instances of the sides has more steps than this
  abbrev pub IsWithinSteps : ℕ → Substitution → Type 0
  IsWithinSteps most s = IsWithin m.signature (equations_of m.equations) most (sides_of (pairs_of p.pairs)) s

  -- under the substitution, whose values are irreducible, the sides are brought to irreducible terms
  abbrev pub IsVariantOfSides : Reached → Type 0
  IsVariantOfSides v = IsVariant m.signature (equations_of m.equations) [] (sides_of (pairs_of p.pairs)) v.0 v.1

  -- on the problem's variables, one substitution makes the first from the second, modulo the axioms
  abbrev pub IsCoveredBy : Reached → Reached → Type 0
  IsCoveredBy w v = Covers m.signature p.vars v.0 v.1 w.0 w.1

  -- finitely many variants of the sides, to each of which no more steps than this lead, cover every variant of them
  pub record HasFewLevels (most : ℕ) : Type 0 where
    pub variants : List Reached
    pub all : IsCompleteSet IsVariantOfSides IsCoveredBy variants
    pub within : All (λ v. IsWithinSteps most v.1) variants

  -- What is promised of its unifiers: the answers have irreducible values, and none is an instance of another modulo the
  -- axioms; the solutions are all unifiers in the theory, each of which is there an instance of an answer; termination
  -- and confluence are trusted.
  abbrev pub theory_unifiers_of : Promise Substitution
  theory_unifiers_of = record {
    IsOne = IsIrreducibleUnifier;
    IsBelow = IsInstanceOf m p;
    IsSolution = UnifiesInTheory;
    IsReached = IsTheoryInstanceOf;
    Denotes = DenotesOnVariables m p;
    Trusted = AreTrusted m;
  }
