-- A renaming of some variables, as a well-sorted substitution.
use Rattle.std.proofs.Common.{◌≡◌, refl, subst}
use Rattle.fvn_base.specs.Decided.{Decided}
use Rattle.fvn_terms.specs.declared.plain.Var.{Var}
use Rattle.fvn_terms.specs.declared.plain.SortId.{SortId}
use Rattle.fvn_terms.specs.declared.declarations.Declarations.{Declarations}
use Rattle.fvn_terms.specs.Term.{Term, var}
use Rattle.fvn_terms.specs.Substitution.{Substitution, apply, Occurs}
use Rattle.fvn_terms.specs.Signature.{HasKind}
use Rattle.fvn_terms.specs.Equality.{BEqual}
use Rattle.fvn_terms.specs.Sorts.{IsWellSorted}
use Rattle.fvn_terms.proofs.Substitutions.{apply-agree}
use Rattle.fvn_terms.proofs.Equal.{HasKind-apply}
use Rattle.fvn_forms.specs.Flat.{FlatTerm, plain}
use Rattle.fvn_forms.specs.Good.{IsGood}
use Rattle.fvn_forms.proofs.Eval.{canon_settled}
use Rattle.fvn_forms.proofs.ToCanon.{to_canon, canon_of_kind}
use Rattle.fvn_flat.specs.Drawn.{Renaming, renamed}
use Rattle.fvn_flat.specs.Fits.{Fits}
use Rattle.fvn_flat.specs.Successors.{IsRenaming, renamed_form}
use Rattle.fvn_lifting.proofs.Chosen.{chosen, chosen_if, sorted_each, chosen_stands, variable_stands}

module _ (d : Declarations) (Among : Var → Type 0) (among_or_not : (x : Var) → Decided (Among x)) (by : Renaming) (renames : IsRenaming Among by) where
  -- these variables are renamed, and others stay
  abbrev pub renaming_among : Substitution
  renaming_among x = chosen (among_or_not x) (var (by x)) (var x)

  pub renaming_among_sorted : IsWellSorted d renaming_among
  renaming_among_sorted =
      sorted_each d renaming_among
      (λ x. chosen_stands d (among_or_not x) x.sort (var (by x)) (var x) (λ a. variable_stands d x.sort (by x) (renames.sorts x a)) (λ n. variable_stands d x.sort x refl))

  pub renaming_among_is : (t : Term) → ((x : Var) → Occurs x t → Among x) → apply renaming_among t ≡ renamed by t
  renaming_among_is t within = apply-agree renaming_among (λ x. var (by x)) t (λ x o. chosen_if (among_or_not x) (var (by x)) (var x) (within x o))

  module _ (good : IsGood d) (t : FlatTerm) (k : SortId) (kinded : HasKind d (plain t) k) (within : (x : Var) → Occurs x (plain t) → Among x) where
    renamed_kind : HasKind d (renamed by (plain t)) k
    renamed_kind = subst (λ u. HasKind d u k) (renaming_among_is (plain t) within) (HasKind-apply d renaming_among renaming_among_sorted.0 (plain t) k kinded)

    -- the renamed form stands for the renamed term, and fits
    pub renamed_form_equal : BEqual d (renamed by (plain t)) (plain (renamed_form d by t))
    renamed_form_equal = to_canon d good.fits (renamed by (plain t)) k renamed_kind

    pub renamed_form_kind : HasKind d (plain (renamed_form d by t)) k
    renamed_form_kind = canon_of_kind d good.fits (renamed by (plain t)) k renamed_kind

    pub renamed_form_fits : Fits d (renamed_form d by t)
    renamed_form_fits = record { flat = canon_settled d (renamed by (plain t)); kinded = (k, renamed_form_kind) }
