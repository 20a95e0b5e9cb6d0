-- A part of a form, and what stands beside it.
use Rattle.std.proofs.Common.{◌⊎◌, None, Some, sym, subst, inl}
use Rattle.fvn_terms.specs.declared.plain.Var.{Var}
use Rattle.fvn_terms.specs.declared.declarations.Declarations.{Declarations}
use Rattle.fvn_terms.specs.Signature.{HasKind}
use Rattle.fvn_terms.specs.Substitution.{Occurs}
use Rattle.fvn_forms.specs.Flat.{FlatTerm, plain}
use Rattle.fvn_forms.specs.Good.{IsGood}
use Rattle.fvn_forms.proofs.KindsKept.{kind_unique}
use Rattle.fvn_flat.specs.Fits.{Fits}
use Rattle.fvn_flat.specs.FlatPlaces.{Beside, IsPartOf, with_beside}
use Rattle.fvn_places.specs.Putting.{KeepsKindsOf}
use Rattle.fvn_lifting.proofs.Parts.{part_kind, part_settled, part_occurs as sum_occurs, others_fit, put_kind, put_fits, put_occurs, put_takes}
use Rattle.fvn_narrow.specs.inner.Turns.{SomeLeft, CanStandBeside}

module _ (d : Declarations) (good : IsGood d) (whole at : FlatTerm) (fits : Fits d whole) where
  -- the part has the kind of the whole, and fits
  kind_of_part : (b : Beside) → IsPartOf whole at b → HasKind d (plain at) fits.kinded.0
  kind_of_part None e = subst (λ t. HasKind d (plain t) fits.kinded.0) e fits.kinded.1
  kind_of_part (Some sum) p = part_kind d good sum.0 sum.1 whole at p fits

  pub part_fits : (b : Beside) → IsPartOf whole at b → Fits d at
  part_fits None e = subst (Fits d) e fits
  part_fits (Some sum) p = record { flat = part_settled d good sum.0 sum.1 whole at p fits; kinded = (fits.kinded.0, part_kind d good sum.0 sum.1 whole at p fits) }

  -- what occurs in it occurs in the whole
  pub occurs_in_whole : (b : Beside) → IsPartOf whole at b → (x : Var) → Occurs x (plain at) → Occurs x (plain whole)
  occurs_in_whole None e x o = subst (λ t. Occurs x (plain t)) (sym e) o
  occurs_in_whole (Some sum) p x o = sum_occurs d good sum.0 sum.1 whole at p fits x o

  module _ (right : FlatTerm) (right_fits : Fits d right) (keeps : KeepsKindsOf d at right) where
    right_kind : (b : Beside) → IsPartOf whole at b → HasKind d (plain right) fits.kinded.0
    right_kind b p = keeps fits.kinded.0 (kind_of_part b p)

    -- what is put in place of the whole fits
    pub given_fits : (b : Beside) → IsPartOf whole at b → Fits d (with_beside d b right)
    given_fits None e = right_fits
    given_fits (Some sum) p = put_fits d good sum.0 sum.1 whole at p fits right right_fits (right_kind (Some sum) p)

    given_kind : (b : Beside) → IsPartOf whole at b → HasKind d (plain (with_beside d b right)) fits.kinded.0
    given_kind None e = right_kind None e
    given_kind (Some sum) p = put_kind d good sum.0 sum.1 whole at p fits right right_fits (right_kind (Some sum) p)

    pub given_keeps : (b : Beside) → IsPartOf whole at b → KeepsKindsOf d whole (with_beside d b right)
    given_keeps b p k h = subst (HasKind d (plain (with_beside d b right))) (kind_unique d good.fits (plain whole) fits.kinded.0 k fits.kinded.1 h) (given_kind b p)

    -- what occurs in it occurs in the right side or in the whole
    pub given_occurs : (b : Beside) → IsPartOf whole at b → (x : Var) → Occurs x (plain (with_beside d b right)) → Occurs x (plain right) ⊎ Occurs x (plain whole)
    given_occurs None e x o = inl o
    given_occurs (Some sum) p x o = put_occurs d good sum.0 sum.1 whole at p fits right right_fits (right_kind (Some sum) p) x o

    -- and the operator takes it with what stands there
    pub can_stand : (b : Beside) → IsPartOf whole at b → SomeLeft b → CanStandBeside d b right
    can_stand None e h = tt
    can_stand (Some sum) p h = ((right_fits, others_fit d good sum.0 sum.1 whole at p fits), put_takes d good sum.0 sum.1 whole at p fits right right_fits (right_kind (Some sum) p) h)
