-- What may stand in place of an argument.
use Rattle.std.specs.Prelude.{◌≡◌, ℕ, Some, slice_get}
use Rattle.fvn_terms.specs.declared.declarations.Declarations.{Declarations}
use Rattle.fvn_forms.specs.Flat.{FlatTerm}
use Rattle.fvn_flat.specs.Forms.{args_of}
use Rattle.fvn_flat.specs.Fits.{Fits}
use Rattle.fvn_places.specs.Putting.{KeepsKindsOf}

module _ (d : Declarations) (t : FlatTerm) (place : ℕ) where
  -- the form fits, and has the kind of the argument at this place
  pub record MayStandFor (u : FlatTerm) : Type 0 where
    pub argument : FlatTerm
    pub is : slice_get (args_of t) place ≡ Some argument
    pub fits : Fits d u
    pub keeps : KeepsKindsOf d argument u
