-- Laws of the definitions.
use Rattle.std.specs.Prelude.{◌≡◌, ◌≤◌, ◌+◌, ◌↔◌, ℕ, List, map, All, Contains}
use Rattle.std.specs.List.{AllZip}
use Rattle.fvn_terms.specs.declared.plain.OpId.{OpId}
use Rattle.fvn_terms.specs.declared.plain.SortId.{SortId}
use Rattle.fvn_terms.specs.declared.plain.Var.{Var}
use Rattle.fvn_terms.specs.declared.declarations.Axioms.TheVariants.{Free}
use Rattle.fvn_terms.specs.declared.declarations.Declarations.{Declarations}
use Rattle.fvn_terms.specs.Term.{Term, app, pack}
use Rattle.fvn_terms.specs.Substitution.{Substitution, apply, followed_by, Occurs}
use Rattle.fvn_terms.specs.Signature.{axioms, KeepsKinds, IsTerm}
use Rattle.fvn_terms.specs.Places.{AtOnePlace}
use Rattle.fvn_terms.specs.Equality.{BEqual}
use Rattle.fvn_terms.specs.Sorts.{HasSort, IsWellSorted}
use Rattle.fvn_terms.specs.Unifiers.{Problem, IsUnifier, IsInstance}
use Rattle.fvn_terms.specs.Theory.{Equations, IsRule, TEqual, IsTheoryUnifier, IsTheoryInstance}
use Rattle.fvn_terms.specs.CompleteSets.{IsCompleteSet, IsApart, IsShortest}
use Rattle.fvn_terms.specs.Rewriting.{Rewrites, TermSequence, ListSequence, IsReducible, IsSortDecreasing, IsIrreducible, IsIrreducibleList, IsTerminating, IsConfluent, BringsNoVariable}
use Rattle.fvn_terms.specs.Variants.{IsVariant, IsWithin, Covers}

-- each term is related to itself, the other way round too, and along two steps
pub record IsEquivalence (R : Term → Term → Type 0) : Type 0 where
  pub reflexive : (t : Term) → R t t
  pub symmetric : (t u : Term) → R t u → R u t
  pub transitive : (t u v : Term) → R t u → R u v → R t v

-- an operator over related arguments gives related terms
abbrev pub IsCongruence : (Term → Term → Type 0) → Type 0
IsCongruence R = (f : OpId) (ts us : _) → AllZip R ts us → R (app f (pack ts)) (app f (pack us))

-- equality modulo the axioms is an equivalence
abbrev pub EqualityIsAnEquivalence : Type 0
EqualityIsAnEquivalence = (d : Declarations) → IsEquivalence (BEqual d)

-- equality modulo the axioms is a congruence
abbrev pub EqualityIsACongruence : Type 0
EqualityIsACongruence = (d : Declarations) → IsCongruence (BEqual d)

-- terms that are equal modulo the axioms stay so under a substitution that keeps kinds
abbrev pub EqualityIsKeptBySubstitution : Type 0
EqualityIsKeptBySubstitution = (d : Declarations) (s : Substitution) → KeepsKinds d s → (t u : Term) → BEqual d t u → BEqual d (apply s t) (apply s u)

-- what follows a unifier is a unifier
abbrev pub WhatFollowsAUnifierIsAUnifier : Type 0
WhatFollowsAUnifierIsAUnifier = (d : Declarations) (problem : Problem) (s c : Substitution) →
    IsUnifier d problem s → IsWellSorted d c → IsUnifier d problem (followed_by s c)

-- no operator has axioms
abbrev pub IsFree : Declarations → Type 0
IsFree d = (f : OpId) → axioms d f ≡ Free

-- without axioms, terms that are equal modulo the axioms are equal
abbrev pub FreeTermsAreEqual : Type 0
FreeTermsAreEqual = (d : Declarations) → IsFree d → (t u : Term) → BEqual d t u → t ≡ u

-- what is said of equality in the theory of some equations
pub record TheoryLaws (d : Declarations) (equations : Equations) : Type 0 where
  pub equivalence : IsEquivalence (TEqual d equations)
  pub congruence : IsCongruence (TEqual d equations)
  pub modulo : (t u : Term) → BEqual d t u → TEqual d equations t u
  pub substitution : (s : Substitution) → IsWellSorted d s → (t u : Term) → TEqual d equations t u → TEqual d equations (apply s t) (apply s u)
  pub follows : (problem : Problem) (s c : Substitution) → IsTheoryUnifier d equations problem s →
      IsWellSorted d c → IsTheoryUnifier d equations problem (followed_by s c)
  pub instances : (vars : List Var) (a b : Substitution) → IsInstance d vars a b → IsTheoryInstance d equations vars a b

-- equality in the theory is an equivalence and a congruence, contains equality modulo the axioms and its instances, and is kept by well-sorted substitutions
abbrev pub TheoryEqualityIsLawful : Type 0
TheoryEqualityIsLawful = (d : Declarations) (equations : Equations) → TheoryLaws d equations

-- an instance of an instance is one, modulo the axioms and in a theory
pub record InstancesChain (d : Declarations) (equations : Equations) (vars : List Var) : Type 0 where
  pub modulo : (a b c : Substitution) → IsInstance d vars a b → IsInstance d vars b c → IsInstance d vars a c
  pub theory : (a b c : Substitution) → IsTheoryInstance d equations vars a b →
      IsTheoryInstance d equations vars b c → IsTheoryInstance d equations vars a c

-- instances of instances are instances
abbrev pub InstancesAreTransitive : Type 0
InstancesAreTransitive = (d : Declarations) (equations : Equations) (vars : List Var) → InstancesChain d equations vars

-- a complete set of unifiers of which none is an instance of another is a shortest one
abbrev pub CompleteSetsThatAreApartAreShortest : Type 0
CompleteSetsThatAreApartAreShortest =
    (d : Declarations) (problem : Problem) (vars : List Var) (set : List Substitution) →
    IsCompleteSet (IsUnifier d problem) (IsInstance d vars) set → IsApart (IsInstance d vars) set →
    IsShortest (IsUnifier d problem) (IsInstance d vars) set

-- what is said of rewriting with some equations
pub record RewritingLaws (d : Declarations) (equations : Equations) : Type 0 where
  -- steps lead between classes of equal terms
  pub modulo : (t v u w : Term) → BEqual d t v → Rewrites d equations t u → BEqual d u w → Rewrites d equations v w
  -- a step of a subterm is a step of the term
  pub inside : (t u : Term) → AtOnePlace (Rewrites d equations) t u → Rewrites d equations t u
  -- instances of a step are steps
  pub instances : (s : Substitution) → IsWellSorted d s → (t u : Term) → Rewrites d equations t u → Rewrites d equations (apply s t) (apply s u)
  -- two sequences in a row are one
  pub joined : (j k : ℕ) (t u v : Term) → TermSequence d equations j t u → TermSequence d equations k u v → TermSequence d equations (j + k) t v
  -- from an irreducible term only the sequence without a step leads on
  pub ended : (k : ℕ) (t u : Term) → IsIrreducible d equations t → TermSequence d equations k t u → (k ≡ 0) × BEqual d t u
  -- what stands at a variable in an irreducible instance is irreducible
  pub values : (s : Substitution) (t : Term) (x : Var) → Occurs x t → IsIrreducible d equations (apply s t) → IsIrreducible d equations (s x)
  -- a term is reducible where what stands at one of its variables is
  pub reducible : (s : Substitution) (t : Term) (x : Var) → Occurs x t → IsReducible d equations (s x) → IsReducible d equations (apply s t)
  -- where each equation is sort-decreasing, what an instance of a left side is replaced by has all its sorts
  pub sorts : ((left right : Term) → Contains equations (left, right) → IsSortDecreasing d left right) →
      (t u : Term) → IsRule d equations t u → (q : SortId) → HasSort d t q → HasSort d u q
  -- a sequence stays within the theory
  pub theory : (k : ℕ) (t u : Term) → TermSequence d equations k t u → TEqual d equations t u
  -- a list is irreducible where each member is
  pub lists : (ts : List Term) → IsIrreducibleList d equations ts ↔ All (IsIrreducible d equations) ts
  -- instances of a sequence are sequences
  pub sequences : (s : Substitution) → IsWellSorted d s → (k : ℕ) (t u : Term) →
      TermSequence d equations k t u → TermSequence d equations k (apply s t) (apply s u)
  -- two sequences of lists in a row are one
  pub list_joined : (j k : ℕ) (ts us vs : List Term) → ListSequence d equations j ts us →
      ListSequence d equations k us vs → ListSequence d equations (j + k) ts vs
  -- sequences bring no new variable, where the equations' right sides have none
  pub variables : BringsNoVariable equations → (x : Var) (k : ℕ) (t u : Term) → TermSequence d equations k t u → Occurs x u → Occurs x t
  -- where the equations terminate, sequences of a list are bounded
  pub bounded : IsTerminating d equations → (ts : List Term) → All (IsTerm d) ts →
      (most : ℕ) × ((k : ℕ) (us : List Term) → ListSequence d equations k ts us → k ≤ most)
  -- where the equations are confluent, irreducible terms that one term is brought to are equal modulo the axioms
  pub one_normal_form : IsConfluent d equations → (t u v : Term) (j k : ℕ) → IsTerm d t →
      TermSequence d equations j t u → TermSequence d equations k t v →
      IsIrreducible d equations u → IsIrreducible d equations v → BEqual d u v
  -- what bounds the sequences of an instance bounds the steps to its variants, and leaves that much less behind them
  pub within : (most : ℕ) (terms us : List Term) (s : Substitution) (k : ℕ) →
      IsWithin d equations most terms s → ListSequence d equations k (map (apply s) terms) us →
      (j : ℕ) (vs : List Term) → ListSequence d equations j us vs → k + j ≤ most
  -- the terms of a variant are equal in the theory to the instance that its substitution makes
  pub variants : (fixed terms us : List Term) (s : Substitution) → IsVariant d equations fixed terms us s →
      AllZip (TEqual d equations) (map (apply s) terms) us

-- rewriting modulo the axioms keeps to these laws, whatever the signature and the equations
abbrev pub RewritingIsLawful : Type 0
RewritingIsLawful = (d : Declarations) (equations : Equations) → RewritingLaws d equations

-- covering is reflexive and transitive
pub record CoveringIsAnOrder (d : Declarations) (vars : List Var) : Type 0 where
  pub reflexive : (ts : List Term) (s : Substitution) → Covers d vars ts s ts s
  pub transitive : (ts us vs : List Term) (s c e : Substitution) → Covers d vars ts s us c → Covers d vars us c vs e → Covers d vars ts s vs e

-- for every signature and all variables
abbrev pub CoveringIsReflexiveAndTransitive : Type 0
CoveringIsReflexiveAndTransitive = (d : Declarations) (vars : List Var) → CoveringIsAnOrder d vars
