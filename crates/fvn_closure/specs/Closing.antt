-- Closed levels: every reducible instance of a member lifts into a kept one.
-- S. Escobar, R. Sasse and J. Meseguer, Folding variant narrowing and optimal variant termination, 2012.
use Rattle.std.specs.Prelude.{◌≡◌, ◌≤◌, ◌<◌, ◌+◌, ℕ, List, map, All, Contains}
use Rattle.fvn_terms.specs.declared.plain.Var.{Var}
use Rattle.fvn_terms.specs.Term.{Term}
use Rattle.fvn_terms.specs.Substitution.{Substitution, Occurs}
use Rattle.fvn_terms.specs.Variants.{Covers, OccursInSome}
use Rattle.fvn_forms.specs.Flat.{FlatTerm, plain}
use Rattle.fvn_forms.specs.Good.{IsGood}
use Rattle.fvn_signature.specs.Queries.{IsCompleted}
use Rattle.fvn_flat.specs.Fits.{AllFit}
use Rattle.fvn_flat.specs.Solving.{substitution}
use Rattle.fvn_cover.specs.declared.variant.Variant.{Variant}
use Rattle.fvn_exploring.specs.declared.ends.Deep.{Deep}
use Rattle.fvn_exploring.specs.Setting.{Setting, AreLawfulIn}
use Rattle.fvn_exploring.specs.Liftings.{LiftsInto}
use Rattle.fvn_exploring.specs.Explorations.{IsVariantOf, IsStartWithin}

-- A good signature with all that its queries need, lawful equations, a start of forms that fit, and fixed terms over
-- its variables.
pub record IsExplorable (g : Setting) (start : List FlatTerm) : Type 0 where
  pub good : IsGood g.declarations
  pub completed : IsCompleted g.declarations
  pub lawful : AreLawfulIn g
  pub fits : AllFit g.declarations start
  pub fixed : All (λ t. (y : Var) → Occurs y t → OccursInSome y (map plain start)) g.fixed

-- one of the kept members is this variant, and not deeper than so many levels
abbrev pub IsKeptWithin : List Deep → ℕ → Variant → Type 0
IsKeptWithin kept most c = (m : Deep) × Contains kept m × (m.variant ≡ c) × (m.depth ≤ most)

-- every reducible instance of a member above this level lifts into a kept one, at most one level deeper than the member
abbrev pub AreClosedBelow : Setting → List Deep → ℕ → Type 0
AreClosedBelow g kept below =
    (m : Deep) → Contains kept m → m.depth < below → LiftsInto g m.variant (IsKeptWithin kept (m.depth + 1))

-- terms, and the substitution under which they were reached
abbrev pub Reached : Type 0
Reached = List Term × Substitution

-- what a flat variant stands for
abbrev pub reached_of : Variant → Reached
reached_of v = (map plain v.terms, substitution v.subst)

module _ (g : Setting) (start : List FlatTerm) where
  -- these are a variant of the start
  abbrev pub IsReachedVariant : Reached → Type 0
  IsReachedVariant p = IsVariantOf g start p.0 p.1

  -- the second covers the first, on these variables
  abbrev pub IsCoveredBy : List Var → Reached → Reached → Type 0
  IsCoveredBy vars p q = Covers g.declarations vars q.0 q.1 p.0 p.1

  -- a variant of the start that no more steps than these lead to
  abbrev pub IsVariantWithin : ℕ → Reached → Type 0
  IsVariantWithin most p = IsReachedVariant p × IsStartWithin g start most p.1
