-- Why equations are not shown to be confluent where they terminate.
-- D. E. Knuth and P. B. Bendix, Simple word problems in universal algebras, 1970.
-- J.-P. Jouannaud and H. Kirchner, Completion of a set of rules modulo a set of equations, 1986.
use Rattle.std.specs.Prelude.{◌≡◌, ◌⊎◌, ◌≤◌, ℕ, [], ◌∷◌, Option, None, Some}
use Rattle.fvn_terms.specs.declared.declarations.Declarations.{Declarations}
use Rattle.fvn_terms.specs.Substitution.{Substitution, apply}
use Rattle.fvn_terms.specs.Unifiers.{Problem, IsUnifier}
use Rattle.fvn_terms.specs.Rewriting.{IsTerminating, IsConfluent}
use Rattle.fvn_forms.specs.Flat.{FlatTerm, plain}
use Rattle.fvn_forms.specs.Canon.{canon}
use Rattle.fvn_flat.specs.Bindings.{Bindings}
use Rattle.fvn_flat.specs.Solving.{substitution}
use Rattle.fvn_flat.specs.declared.solver.Pairs.{Pairs}
use Rattle.fvn_rewrite_laws.specs.Losses.{AreSortDecreasing, IsFirstLoss}
use Rattle.fvn_rewrite_rules.specs.Given.{RuleLists}
use Rattle.fvn_theory.specs.declared.bounds.Bounds.{Bounds}
use Rattle.fvn_rewrite.specs.Usable.{Rewriting, equations_by}
use Rattle.fvn_exploring.specs.Setting.{Setting}
use Rattle.fvn_exploring.specs.Causes.{IsStepsCause, IsSizeCause, IsSystemCause, IsUnifiersCause}
use Rattle.fvn_critical_pairs.specs.Overlaps.{Overlap, inner_result, overlap_problem, IsOverlap}
use Rattle.fvn_critical_pairs.specs.Divergence.{Diverge}
use Rattle.fvn_critical.specs.declared.fault.CriticalFault.{CriticalFault}
use Rattle.fvn_critical.specs.declared.fault.CriticalFault.TheVariants.{Sorts, Apart, Steps, Size, Basis, Unifiers}

-- what rewrites, from its parts
abbrev pub rewriting_of : Declarations → RuleLists → Bounds → Rewriting
rewriting_of d rules bounds = record { signature = d; rules = rules; bounds = bounds }

-- what rewrites, and at how many unifiers of a problem its solver stops
abbrev pub critical_setting : Rewriting → ℕ → Setting
critical_setting r unifiers = record {
  declarations = r.signature;
  equations = equations_by r;
  fixed = [];
  bounds = r.bounds;
  unifiers = unifiers;
}

-- no equation loses a sort, and where the equations terminate they are confluent
pub record AreConfluentIfTerminating (r : Rewriting) : Type 0 where
  pub decreasing : AreSortDecreasing r.signature (equations_by r)
  pub confluent : IsTerminating r.signature (equations_by r) → IsConfluent r.signature (equations_by r)

-- the pairs are the problem of an overlap of the rules
pub record IsOverlapProblem (r : Rewriting) (given : Pairs) : Type 0 where
  pub next : ℕ
  pub overlap : Overlap
  pub overlaps : IsOverlap r.signature r.rules next overlap
  pub is : given.pairs ≡ (overlap.at, overlap.inner.left) ∷ []

module _ (r : Rewriting) (drawn : Problem → Substitution → Type 0) where
  -- one of the two forms to which the rules of an overlap lead, under a drawn unifier
  pub record IsCriticalForm (t : FlatTerm) : Type 0 where
    pub next : ℕ
    pub overlap : Overlap
    pub overlaps : IsOverlap r.signature r.rules next overlap
    pub unifier : Bindings
    pub unifies : IsUnifier r.signature (overlap_problem overlap) (substitution unifier)
    pub is_drawn : drawn (overlap_problem overlap) (substitution unifier)
    pub is : (t ≡ canon r.signature (apply (substitution unifier) (plain overlap.outer.right)))
        ⊎ (t ≡ canon r.signature (apply (substitution unifier) (plain (inner_result overlap))))

  module _ (unifiers : ℕ) where
    -- what each fault shows
    abbrev pub IsCriticalFault : CriticalFault → Type 0
    IsCriticalFault (Sorts n) = IsFirstLoss r.signature (equations_by r) n
    IsCriticalFault (Apart m n t u) =
        (m ≤ n) × Diverge r.signature r.rules.equations m n (plain t) (plain u)
    IsCriticalFault (Steps start end) =
        IsStepsCause (critical_setting r unifiers) drawn (IsOverlapProblem r) IsCriticalForm start end
    IsCriticalFault (Size cause) =
        IsSizeCause (critical_setting r unifiers) drawn (IsOverlapProblem r) IsCriticalForm cause
    IsCriticalFault (Basis f system) =
        IsSystemCause (critical_setting r unifiers) drawn (IsOverlapProblem r) IsCriticalForm f system
    IsCriticalFault (Unifiers given list) =
        IsUnifiersCause (critical_setting r unifiers) drawn (IsOverlapProblem r) IsCriticalForm given list

    -- what is shown where there is no fault, and by a fault
    abbrev pub IsAnswer : Option CriticalFault → Type 0
    IsAnswer None = AreConfluentIfTerminating r
    IsAnswer (Some f) = IsCriticalFault f

-- the fault is told where equation n, and none before it, loses a sort
abbrev pub TellsFirstLoss : Rewriting → Option CriticalFault → Type 0
TellsFirstLoss r answer =
    (n : ℕ) → IsFirstLoss r.signature (equations_by r) n → answer ≡ Some (Sorts n)

-- a limit was met
abbrev pub MeetsLimit : CriticalFault → Type 0
MeetsLimit (Sorts n) = ⊥
MeetsLimit (Apart m n t u) = ⊥
MeetsLimit (Steps start end) = Unit {0}
MeetsLimit (Size cause) = Unit {0}
MeetsLimit (Basis f system) = Unit {0}
MeetsLimit (Unifiers given list) = Unit {0}

-- where no equation loses a sort and the equations are confluent, there is no fault but that a limit was met
abbrev pub IsOnlyLimited : Rewriting → Option CriticalFault → Type 0
IsOnlyLimited r answer =
    AreSortDecreasing r.signature (equations_by r) → IsConfluent r.signature (equations_by r) →
    (f : CriticalFault) → answer ≡ Some f → MeetsLimit f
