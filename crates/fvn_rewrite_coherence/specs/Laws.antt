-- Laws of rules: coherence modulo the axioms, and sorts along steps.
use Rattle.std.specs.Prelude.{◌⊎◌, ℕ}
use Rattle.fvn_terms.specs.declared.plain.Var.{Var}
use Rattle.fvn_terms.specs.declared.plain.OpId.{OpId}
use Rattle.fvn_terms.specs.declared.plain.SortId.{SortId}
use Rattle.fvn_terms.specs.declared.declarations.Declarations.{Declarations}
use Rattle.fvn_terms.specs.Term.{Term, var}
use Rattle.fvn_terms.specs.Substitution.{Substitution, apply, Occurs}
use Rattle.fvn_terms.specs.Signature.{IsTerm}
use Rattle.fvn_terms.specs.Equality.{constant}
use Rattle.fvn_terms.specs.Sorts.{HasSort, IsWellSorted}
use Rattle.fvn_terms.specs.Theory.{Equations}
use Rattle.fvn_terms.specs.Rewriting.{Rewrites, TermSequence, IsIrreducible}
use Rattle.fvn_forms.specs.Flat.{FlatTerm, plain}
use Rattle.fvn_forms.specs.Canon.{canon}
use Rattle.fvn_forms.specs.Good.{IsGood}
use Rattle.fvn_signature.specs.Queries.{IsCompleted}
use Rattle.fvn_flat.specs.Rules.{IsIdentity}
use Rattle.fvn_flat.specs.Fits.{Fits}
use Rattle.fvn_flat.specs.FlatPlaces.{IsReplaced}
use Rattle.fvn_rewrite_laws.specs.Losses.{AreSortDecreasing}
use Rattle.fvn_rewrite_laws.specs.Admissible.{AreAdmissible}
use Rattle.fvn_rewrite_coherence.specs.PlacedSteps.{StepsAtPlace}
use Rattle.fvn_rewrite_coherence.specs.InstanceSteps.{StepsAtPart, StepsInValue}

-- the rules of equations reach, at the places of flat forms, just what the equations reach modulo the axioms
pub record CoherenceLaws (d : Declarations) (equations : Equations) : Type 0 where
  -- each step of a term is a step at a place of its flat form, by a rule whose left side the operator there heads
  pub placed : (t u : Term) → IsTerm d t → Rewrites d equations t u → StepsAtPlace d equations (canon d t) u
  -- and each step at a place of a form is one of the term that it stands for
  pub steps : (t : FlatTerm) (u : Term) → StepsAtPlace d equations t u → Rewrites d equations (plain t) u
  -- variables and identities are irreducible
  pub variables : (x : Var) → IsTerm d (var x) → IsIrreducible d equations (var x)
  pub identities : (e : OpId) → IsIdentity d e → IsIrreducible d equations (constant e)

-- in a good signature with all that its queries need, for admissible equations
abbrev pub RulesAreCoherent : Type 0
RulesAreCoherent = (d : Declarations) → IsGood d → IsCompleted d → (equations : Equations) → AreAdmissible d equations → CoherenceLaws d equations

-- along sequences with admissible sort-decreasing equations each sort of the first term is one of the last
abbrev pub SequencesKeepSorts : Type 0
SequencesKeepSorts = (d : Declarations) → IsGood d → IsCompleted d → (equations : Equations) →
    AreAdmissible d equations → AreSortDecreasing d equations →
    (n : ℕ) (t u : Term) → IsTerm d t → TermSequence d equations n t u → (s : SortId) → HasSort d t s → HasSort d u s

-- where the steps of well-sorted instances of a form stand, and which they are
pub record InstanceLaws (d : Declarations) (equations : Equations) (t : FlatTerm) (s : Substitution) : Type 0 where
  -- each is one at a part of the form, or within the value of a variable
  pub placed : (u : Term) → Rewrites d equations (apply s (plain t)) u → StepsAtPart d equations s t u ⊎ StepsInValue d equations s t u
  -- and at a part, where the values of the form's variables are irreducible
  pub at_part : ((x : Var) → Occurs x (plain t) → IsIrreducible d equations (s x)) → (u : Term) →
      Rewrites d equations (apply s (plain t)) u → StepsAtPart d equations s t u
  -- each step of the instance of a part is one of the whole instance
  pub steps : (at given replaced : FlatTerm) → IsReplaced at given t replaced →
      Rewrites d equations (apply s (plain at)) (apply s (plain given)) →
      Rewrites d equations (apply s (plain t)) (apply s (plain replaced))

-- in a good signature with all that its queries need, for admissible equations and forms that fit
abbrev pub InstancesStepAtParts : Type 0
InstancesStepAtParts = (d : Declarations) → IsGood d → IsCompleted d → (equations : Equations) → AreAdmissible d equations →
    (t : FlatTerm) → Fits d t → (s : Substitution) → IsWellSorted d s → InstanceLaws d equations t s
