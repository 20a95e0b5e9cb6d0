-- Laws of unifiers in a theory.
use Rattle.std.specs.Prelude.{◌↔◌, ℕ, List}
use Rattle.fvn_terms.specs.Substitution.{Substitution}
use Rattle.fvn_terms.specs.Term.{Term}
use Rattle.fvn_terms.specs.Unifiers.{Problem, IsInstance}
use Rattle.fvn_terms.specs.Theory.{IsTheoryInstance}
use Rattle.fvn_terms.specs.Rewriting.{IsTerminating}
use Rattle.fvn_terms.specs.Variants.{IsWithin}
use Rattle.fvn_terms.specs.CompleteSets.{IsApart, IsShortest}
use Rattle.fvn_forms.specs.FitsKinds.{FitsKinds}
use Rattle.fvn_forms.specs.Good.{IsGood}
use Rattle.fvn_signature.specs.Queries.{IsCompleted}
use Rattle.fvn_flat.specs.Problems.{variables_of, plain_pairs, flat_pairs, IsProblem}
use Rattle.fvn_rewrite_laws.specs.Losses.{AreSortDecreasing}
use Rattle.fvn_rewrite_laws.specs.Admissible.{AreAdmissible}
use Rattle.fvn_exploring.specs.Setting.{Setting}
use Rattle.fvn_vunify.specs.Solutions.{IsKeptUnifier, IsIrreducibleUnifier}
use Rattle.fvn_vunify.specs.Solutions.{IsInstanceOfSome, IsTheoryInstanceOfSome, AreAllIrreducibleUnifiers}

-- c is an irreducible unifier of which s is an instance in the theory; its instances have no longer sequences than
-- those of s
pub record IsIrreducibleFor (g : Setting) (problem : Problem) (s c : Substitution) : Type 0 where
  pub irreducible : IsIrreducibleUnifier g problem c
  pub instance : IsTheoryInstance g.declarations g.equations (variables_of problem) s c
  pub within : (most : ℕ) (ts : List Term) → IsWithin g.declarations g.equations most ts s
      → IsWithin g.declarations g.equations most ts c

-- what is said of all unifiers of a problem in the theory
pub record TheoryUnifierLaws (g : Setting) (problem : Problem) : Type 0 where
  -- each under which the fixed terms stay irreducible is an instance of one with irreducible values
  pub irreducible : (s : Substitution) → IsKeptUnifier g problem s → (c : Substitution) × IsIrreducibleFor g problem s c
  -- so where each irreducible one is an instance of one of a list, each is so in the theory
  pub complete : (list : List Substitution)
      → ((c : Substitution) → IsIrreducibleUnifier g problem c → IsInstanceOfSome g problem list c)
      → (s : Substitution) → IsKeptUnifier g problem s → IsTheoryInstanceOfSome g problem list s
  -- and the same of those whose instances of some terms are bounded
  pub within : (list : List Substitution) (most : ℕ) (ts : List Term)
      → ((c : Substitution) → IsIrreducibleUnifier g problem c → IsWithin g.declarations g.equations most ts c
      → IsInstanceOfSome g problem list c)
      → (s : Substitution) → IsKeptUnifier g problem s → IsWithin g.declarations g.equations most ts s
      → IsTheoryInstanceOfSome g problem list s

-- where admissible equations terminate and lose no sort, in a good signature with all that its queries need
abbrev pub TheoryUnifiersHaveIrreducibleValues : Type 0
TheoryUnifiersHaveIrreducibleValues = (g : Setting) → IsGood g.declarations → IsCompleted g.declarations
    → AreAdmissible g.declarations g.equations → AreSortDecreasing g.declarations g.equations
    → IsTerminating g.declarations g.equations
    → (problem : Problem) → IsProblem g.declarations problem → TheoryUnifierLaws g problem

-- a complete list of irreducible unifiers of which none is an instance of another is a shortest one
abbrev pub CompleteIrreducibleUnifiersAreShortest : Type 0
CompleteIrreducibleUnifiersAreShortest = (g : Setting) (problem : Problem) (set : List Substitution)
    → AreAllIrreducibleUnifiers g problem set → IsApart (IsInstance g.declarations (variables_of problem)) set
    → IsShortest (IsIrreducibleUnifier g problem) (IsInstance g.declarations (variables_of problem)) set

-- the same substitutions solve both problems in the theory, and the same are instances
pub record HaveOneTheoryAnswer (g : Setting) (problem other : Problem) : Type 0 where
  pub kept : (s : Substitution) → IsKeptUnifier g problem s ↔ IsKeptUnifier g other s
  pub irreducible : (s : Substitution) → IsIrreducibleUnifier g problem s ↔ IsIrreducibleUnifier g other s
  pub instances : (a b : Substitution) → IsInstance g.declarations (variables_of problem) a b
      ↔ IsInstance g.declarations (variables_of other) a b
  pub theory_instances : (a b : Substitution) → IsTheoryInstance g.declarations g.equations (variables_of problem) a b
      ↔ IsTheoryInstance g.declarations g.equations (variables_of other) a b

-- flattened pairs have the unifiers in the theory of the plain pairs
abbrev pub FlattenedPairsHaveOneTheoryAnswer : Type 0
FlattenedPairsHaveOneTheoryAnswer = (g : Setting) → FitsKinds g.declarations
    → (problem : Problem) → IsProblem g.declarations problem
    → HaveOneTheoryAnswer g problem (plain_pairs (flat_pairs g.declarations problem))
