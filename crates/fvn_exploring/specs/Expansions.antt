-- What is asked of a variant that is expanded, and what is promised of its children.
use Rattle.std.specs.Prelude.{◌≡◌, ◌≢◌, ℕ, All, AllPairs, Contains}
use Rattle.fvn_terms.specs.declared.plain.Var.{Var}
use Rattle.fvn_terms.specs.Substitution.{Substitution, Occurs}
use Rattle.fvn_terms.specs.Unifiers.{Problem}
use Rattle.fvn_cover.specs.declared.variant.Variant.{Variant}
use Rattle.fvn_cover.specs.Covering.{IsFlatVariant}
use Rattle.fvn_exploring.specs.declared.ends.Expansion.{Expansion}
use Rattle.fvn_exploring.specs.declared.ends.ExpandEnd.{ExpandEnd}
use Rattle.fvn_exploring.specs.declared.ends.ExpandEnd.TheVariants.{Whole, Steps, Size, Basis, Unifiers}
use Rattle.fvn_exploring.specs.Setting.{Setting}
use Rattle.fvn_exploring.specs.Children.{HoldsVariables, IsNumberedBelow, IsChild}
use Rattle.fvn_exploring.specs.Liftings.{LiftsInto}
use Rattle.fvn_exploring.specs.Causes.{IsStepsCause, IsSizeCause, IsSystemCause, IsUnifiersCause}
use Rattle.fvn_exploring.specs.Causes.{IsOfSuccessor, IsNarrowingProblem}

-- Flat, holding its variables, each listed once, with new variables of numbers below the first that is free; the fixed
-- terms have no variables but these.
pub record IsExpandable (g : Setting) (first : ℕ) (v : Variant) : Type 0 where
  pub flat : IsFlatVariant g.declarations v
  pub holds : HoldsVariables v
  pub once : AllPairs (λ x y. x ≢ y) v.vars
  pub numbers : IsNumberedBelow first v
  pub fixed : All (λ t. (y : Var) → Occurs y t → Contains v.vars y) g.fixed

-- at Whole every reducible instance with irreducible values lifts into a child
abbrev pub IsWhole : Setting → Variant → Expansion → Type 0
IsWhole g v e = e.end ≡ Whole → LiftsInto g v (Contains e.children)

module _ (g : Setting) (drawn : Problem → Substitution → Type 0) (v : Variant) where
  -- each child is one of v
  abbrev pub AreChildren : Expansion → Type 0
  AreChildren e = All (IsChild g drawn v) e.children

  -- why an expansion of v came to this end
  abbrev pub IsExpandCause : ExpandEnd → Type 0
  IsExpandCause Whole = Unit {0}
  IsExpandCause (Steps start end) =
      IsStepsCause g drawn (IsNarrowingProblem g v) (IsOfSuccessor g drawn v) start end
  IsExpandCause (Size cause) =
      IsSizeCause g drawn (IsNarrowingProblem g v) (IsOfSuccessor g drawn v) cause
  IsExpandCause (Basis f system) =
      IsSystemCause g drawn (IsNarrowingProblem g v) (IsOfSuccessor g drawn v) f system
  IsExpandCause (Unifiers given list) =
      IsUnifiersCause g drawn (IsNarrowingProblem g v) (IsOfSuccessor g drawn v) given list

  -- the end of an expansion has its cause
  abbrev pub HasExpandCause : Expansion → Type 0
  HasExpandCause e = IsExpandCause e.end

  -- all that is promised of an expansion of v
  pub record IsExpansionOf (e : Expansion) : Type 0 where
    pub children : AreChildren e
    pub whole : IsWhole g v e
    pub cause : HasExpandCause e
