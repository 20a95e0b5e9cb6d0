-- What comes of a walk over the places of a form.
use Rattle.std.specs.Prelude.{◌≡◌, ℕ, Option, Some, None, slice_get}
use Rattle.fvn_terms.specs.declared.declarations.Declarations.{Declarations}
use Rattle.fvn_terms.specs.Term.{Term}
use Rattle.fvn_terms.specs.Theory.{Equations}
use Rattle.fvn_forms.specs.Flat.{FlatTerm}
use Rattle.fvn_flat.specs.Forms.{args_of}
use Rattle.fvn_flat.specs.Fits.{Fits}
use Rattle.fvn_rewrite_coherence.specs.PlacedSteps.{IsRedex, StepsAtPlace}
use Rattle.fvn_rewrite_laws.specs.Normalised.{StepsTo}

module _ (d : Declarations) (equations : Equations) where
  -- the form is no redex
  abbrev pub IsNoRedex : FlatTerm → Type 0
  IsNoRedex t = (u : Term) → IsRedex d equations t u → ⊥

  -- no redex stands at a place of the form
  abbrev pub HasNoRedex : FlatTerm → Type 0
  HasNoRedex t = (u : Term) → StepsAtPlace d equations t u → ⊥

  -- one step leads from the first form to the second, which fits
  pub record IsNext (t u : FlatTerm) : Type 0 where
    pub steps : StepsTo d equations t u
    pub fits : Fits d u

  -- one step leads from the argument at this place to the form
  pub record ArgumentSteps (t : FlatTerm) (place : ℕ) (u : FlatTerm) : Type 0 where
    pub argument : FlatTerm
    pub is : slice_get (args_of t) place ≡ Some argument
    pub next : IsNext argument u

  -- what is found at the root
  abbrev pub RootAs : FlatTerm → Option FlatTerm → Type 0
  RootAs t None = IsNoRedex t
  RootAs t (Some u) = IsNext t u

  -- what is found at the places of the form
  abbrev pub WalkAs : FlatTerm → Option FlatTerm → Type 0
  WalkAs t None = HasNoRedex t
  WalkAs t (Some u) = IsNext t u
