-- Laws of normal forms: reducibility is decided, and solutions may be taken with irreducible values.
use Rattle.std.specs.Prelude.{◌⊎◌, ◌≤◌, ℕ, List, All}
use Rattle.fvn_terms.specs.declared.declarations.Declarations.{Declarations}
use Rattle.fvn_terms.specs.Term.{Term}
use Rattle.fvn_terms.specs.Substitution.{Substitution, apply}
use Rattle.fvn_terms.specs.Signature.{IsTerm}
use Rattle.fvn_terms.specs.Sorts.{IsWellSorted}
use Rattle.fvn_terms.specs.Unifiers.{Problem}
use Rattle.fvn_terms.specs.Theory.{Equations, IsTheoryUnifier}
use Rattle.fvn_terms.specs.Rewriting.{ListRewrites, ListSequence, IsReducible, IsIrreducible, IsIrreducibleList, IsTerminating}
use Rattle.fvn_terms.specs.Variants.{IsWithin}
use Rattle.fvn_forms.specs.Good.{IsGood}
use Rattle.fvn_signature.specs.Queries.{IsCompleted}
use Rattle.fvn_rewrite_laws.specs.Losses.{AreSortDecreasing}
use Rattle.fvn_rewrite_laws.specs.Admissible.{AreAdmissible}
use Rattle.fvn_rewrite_normal_forms.specs.NormalForms.{HasNormalForm, HaveNormalForms, IsNormalisedFrom}

-- what is decided of terms, and what their normal forms keep
pub record NormalFormLaws (d : Declarations) (equations : Equations) : Type 0 where
  -- a step leads on from a well-kinded term, or none does; the same of lists of such terms
  pub decided : (t : Term) → IsTerm d t → IsReducible d equations t ⊎ IsIrreducible d equations t
  pub lists : (ts : List Term) → All (IsTerm d) ts → ((us : List Term) × ListRewrites d equations ts us) ⊎ IsIrreducibleList d equations ts
  -- where the equations terminate, each well-kinded term has a normal form
  pub normal_forms : IsTerminating d equations → (t : Term) → IsTerm d t → HasNormalForm d equations t
  -- a list of well-kinded terms has one where its sequences are bounded
  pub list_normal_forms : (most : ℕ) (ts : List Term) → All (IsTerm d) ts →
      ((k : ℕ) (us : List Term) → ListSequence d equations k ts us → k ≤ most) →
      HaveNormalForms d equations ts
  -- where the equations terminate and are sort-decreasing, each well-sorted substitution is brought to one with irreducible values
  pub normalised : IsTerminating d equations → AreSortDecreasing d equations → (s : Substitution) →
      IsWellSorted d s → (c : Substitution) × IsNormalisedFrom d equations s c
  -- which solves what the first solves in the theory
  pub solutions : (s c : Substitution) → IsNormalisedFrom d equations s c → (problem : Problem) →
      IsTheoryUnifier d equations problem s → IsTheoryUnifier d equations problem c
  -- its instances have no longer sequences than those of the first
  pub within : (s c : Substitution) → IsNormalisedFrom d equations s c → (most : ℕ) (ts : List Term) →
      IsWithin d equations most ts s → IsWithin d equations most ts c
  -- and a term whose instance by the first is irreducible keeps an irreducible one
  pub stay : (s c : Substitution) → IsNormalisedFrom d equations s c → (t : Term) →
      IsIrreducible d equations (apply s t) → IsIrreducible d equations (apply c t)

-- in a good signature with all that its queries need, for admissible equations
abbrev pub NormalFormsAreLawful : Type 0
NormalFormsAreLawful = (d : Declarations) → IsGood d → IsCompleted d → (equations : Equations) →
    AreAdmissible d equations → NormalFormLaws d equations
