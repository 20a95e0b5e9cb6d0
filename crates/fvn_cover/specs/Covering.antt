-- Variants in flat form, and when one covers another (Comon-Lundh and Delaune 2005; Escobar, Sasse and Meseguer 2012).
use Rattle.std.specs.Prelude.{◌≡◌, List, length, map, All}
use Rattle.fvn_terms.specs.declared.declarations.Declarations.{Declarations}
use Rattle.fvn_terms.specs.Signature.{IsSort}
use Rattle.fvn_terms.specs.Variants.{Covers}
use Rattle.fvn_forms.specs.Flat.{FlatTerm, plain}
use Rattle.fvn_flat.specs.Bindings.{value, BindingsFit}
use Rattle.fvn_flat.specs.Fits.{AllFit}
use Rattle.fvn_flat.specs.Solving.{substitution}
use Rattle.fvn_cover.specs.declared.variant.Variant.{Variant}

-- what the variables became
abbrev pub values_of : Variant → List FlatTerm
values_of v = map (value v.subst) v.vars

-- one well-sorted substitution makes the terms of b and the values of its variables from those of a, modulo the axioms
abbrev pub CoversVariant : Declarations → Variant → Variant → Type 0
CoversVariant d a b = Covers d a.vars (map plain a.terms) (substitution a.subst) (map plain b.terms) (substitution b.subst)

-- they may be variants of one list of terms: they have the same variables, and equally many terms
pub record AreAlike (a b : Variant) : Type 0 where
  pub vars : a.vars ≡ b.vars
  pub terms : length a.terms ≡ length b.terms

-- its terms and values are flat in the signature and well-kinded, and its variables have known sorts
pub record IsFlatVariant (d : Declarations) (v : Variant) : Type 0 where
  pub terms : AllFit d v.terms
  pub values : BindingsFit d v.subst
  pub vars : All (λ x. IsSort d x.sort) v.vars
