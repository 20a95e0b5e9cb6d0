-- What is found for the pairs of one variant, and of several.
use Rattle.std.specs.Prelude.{◌≡◌, ◌≢◌, ◌⊎◌, ◌↔◌, List, [], ◌∷◌, All, Any, Contains}
use Rattle.fvn_terms.specs.declared.plain.Var.{Var}
use Rattle.fvn_terms.specs.declared.declarations.Declarations.{Declarations}
use Rattle.fvn_terms.specs.Term.{Term, var}
use Rattle.fvn_terms.specs.Substitution.{Substitution, apply, followed_by, Occurs}
use Rattle.fvn_terms.specs.Equality.{BEqual}
use Rattle.fvn_terms.specs.Unifiers.{Problem, IsUnifier, IsInstance}
use Rattle.fvn_terms.specs.Rewriting.{IsIrreducible}
use Rattle.fvn_forms.specs.Flat.{FlatTerm}
use Rattle.fvn_flat.specs.Bindings.{Bindings, composed, IsRestriction, BindingsFit}
use Rattle.fvn_flat.specs.Problems.{IsProblem}
use Rattle.fvn_flat.specs.Solving.{substitution}
use Rattle.fvn_places.specs.Clashes.{NeverMeet}
use Rattle.fvn_cover.specs.declared.variant.Variant.{Variant}
use Rattle.fvn_cover.specs.Covering.{IsFlatVariant}
use Rattle.fvn_exploring.specs.declared.ends.ExpandEnd.{ExpandEnd}
use Rattle.fvn_exploring.specs.declared.ends.ExpandEnd.TheVariants.{Whole}
use Rattle.fvn_exploring.specs.Setting.{Setting}
use Rattle.fvn_exploring.specs.Children.{HoldsVariables}
use Rattle.fvn_vunify.specs.Sides.{two_by_two, problem_over}
use Rattle.fvn_vunify.specs.Causes.{IsPairsCause, MeetsBound}
use Rattle.fvn_vunify.specs.declared.testing.Test.TheVariants.{Stopped}
use Rattle.fvn_vunify.specs.inner.Tests.{ArePassed, AllStay, IsTestAmong}

-- a substitution as a variant without terms
abbrev pub candidate_of : List Var → Bindings → Variant
candidate_of vars s = record { terms = []; subst = s; vars = vars }

-- two of the forms that are taken together never meet
abbrev pub SomeNeverMeet : Declarations → List FlatTerm → Type 0
SomeNeverMeet d ts = Any (λ p. NeverMeet d p.0 p.1) (two_by_two ts)

-- the variables of the first variant
abbrev pub first_variables : List Variant → List Var
first_variables [] = []
first_variables (v ∷ variants) = v.vars

-- what is asked of a variant whose pairs are to be solved over these variables
pub record IsSolvable (g : Setting) (vars : List Var) (v : Variant) : Type 0 where
  pub flat : IsFlatVariant g.declarations v
  pub holds : HoldsVariables v
  pub kinds : IsProblem g.declarations (problem_over v.terms)
  pub same_vars : (x : Var) → Contains vars x ↔ Contains v.vars x
  pub fixed : (t : Term) → Contains g.fixed t → (x : Var) → Occurs x t → Contains vars x

module _ (g : Setting) (vars : List Var) where
  -- r is the first substitution and then the second, on the variables alone
  abbrev pub IsJoined : Bindings → Bindings → Bindings → Type 0
  IsJoined first later r = IsRestriction vars (composed g.declarations first later) r

  -- u is such a substitution as a variant without terms, and passes the tests
  pub record IsTestedAs (first later : Bindings) (u : Variant) : Type 0 where
    pub by : Bindings
    pub joined : IsJoined first later by
    pub is : u ≡ candidate_of vars by
    pub fits : BindingsFit g.declarations by
    pub passed : ArePassed g vars by
    pub stay : AllStay g by g.fixed

  -- the test of one of the values of such a substitution stopped, or of a fixed term under it
  pub record IsStopBetween (first later : Bindings) (end : ExpandEnd) : Type 0 where
    pub by : Bindings
    pub joined : IsJoined first later by
    pub fits : BindingsFit g.declarations by
    pub stop : IsTestAmong g vars by (Stopped end)

  -- each that is found passed; at Whole those of all unifiers are found that give irreducible values, and under which
  -- the fixed terms stay so; else a test stopped
  pub record AreTested (first : Bindings) (list : List Bindings) (found : List Variant)
      (end : ExpandEnd) : Type 0 where
    pub passed : (u : Variant) → Contains found u → Any (λ s. IsTestedAs first s u) list
    pub whole : end ≡ Whole → (s : Bindings) → Contains list s
        → ((x : Var) → Contains vars x
        → IsIrreducible g.declarations g.equations (substitution (composed g.declarations first s) x))
        → ((by : Bindings) → IsJoined first s by → AllStay g by g.fixed)
        → Any (IsTestedAs first s) found
    pub stop : end ≢ Whole → Any (λ s. IsStopBetween first s end) list

  -- over the variables u is what v makes of them and then a unifier of v's terms two by two; it passes the tests
  pub record IsCandidate (v u : Variant) : Type 0 where
    pub by : Bindings
    pub is : u ≡ candidate_of vars by
    pub fits : BindingsFit g.declarations by
    pub others : (x : Var) → (Contains vars x → ⊥) → substitution by x ≡ var x
    pub passed : ArePassed g vars by
    pub stay : AllStay g by g.fixed
    pub unifier : Substitution
    pub unifies : IsUnifier g.declarations (problem_over v.terms) unifier
    pub same : (x : Var) → Contains vars x
        → BEqual g.declarations (substitution by x) (apply unifier (substitution v.subst x))

  -- on the variables, u is more general than v's substitution and then c
  abbrev pub IsAbove : Variant → Substitution → Variant → Type 0
  IsAbove v c u = IsInstance g.declarations vars (followed_by (substitution v.subst) c) (substitution u.subst)

  -- a more general one is found for each unifier of v's terms two by two that gives irreducible values, and under which
  -- the fixed terms stay so
  abbrev pub AreWholeFor : Variant → List Variant → Type 0
  AreWholeFor v found =
      (c : Substitution) → IsUnifier g.declarations (problem_over v.terms) c
      → ((x : Var) → Contains vars x
      → IsIrreducible g.declarations g.equations (apply c (substitution v.subst x)))
      → ((t : Term) → Contains g.fixed t
      → IsIrreducible g.declarations g.equations (apply c (apply (substitution v.subst) t)))
      → Any (IsAbove v c) found

module _ (g : Setting) (drawn : Problem → Substitution → Type 0) (vars : List Var) where
  -- what is found for the pairs of a variant
  pub record IsAttempt (v : Variant) (found : List Variant) (end : ExpandEnd) : Type 0 where
    pub candidates : All (IsCandidate g vars v) found
    pub whole : end ≡ Whole → AreWholeFor g vars v found
    pub cause : IsPairsCause g drawn v end

  -- what is found for the pairs of several variants
  pub record AreAttempts (variants found : List Variant) (end : ExpandEnd) : Type 0 where
    pub candidates : All (λ u. Any (λ v. IsCandidate g vars v u) variants) found
    pub each : All (λ v. AreWholeFor g vars v found ⊎ MeetsBound g drawn v) variants
    pub whole : end ≡ Whole → All (λ v. AreWholeFor g vars v found) variants
    pub cause : end ≢ Whole → Any (λ v. IsPairsCause g drawn v end) variants
