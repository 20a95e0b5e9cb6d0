-- Where the steps of an instance of a flat form stand.
-- J.-M. Hullot, Canonical forms and unification, 1980.
use Rattle.std.specs.Prelude.{◌≡◌, Some}
use Rattle.fvn_terms.specs.declared.plain.Var.{Var}
use Rattle.fvn_terms.specs.declared.plain.OpId.{OpId}
use Rattle.fvn_terms.specs.declared.declarations.Declarations.{Declarations}
use Rattle.fvn_terms.specs.Term.{Term}
use Rattle.fvn_terms.specs.Substitution.{Substitution, apply, Occurs}
use Rattle.fvn_terms.specs.Equality.{BEqual}
use Rattle.fvn_terms.specs.Theory.{Equations}
use Rattle.fvn_terms.specs.Rewriting.{Rewrites}
use Rattle.fvn_forms.specs.Flat.{FlatTerm, fvar, plain}
use Rattle.fvn_forms.specs.Canon.{canon}
use Rattle.fvn_flat.specs.Forms.{head_of}
use Rattle.fvn_flat.specs.FlatPlaces.{IsReplaced}
use Rattle.fvn_flat.specs.Fits.{Fits}
use Rattle.fvn_rewrite_laws.specs.Agreement.{AgreeOn}
use Rattle.fvn_rewrite_coherence.specs.PlacedSteps.{IsRedex}

module _ (d : Declarations) (s : Substitution) where
  -- Whatever form is put in a place of t, where `at` stands, and whatever values variables have that are not in t:
  -- where the instance of what is put there is v, that of the whole is u, modulo the axioms.
  pub record IsPlaceOf (at t : FlatTerm) (v u : Term) : Type 0 where
    -- t with this form in the place
    pub put : FlatTerm → FlatTerm
    pub replaces : (given : FlatTerm) → IsReplaced at given t (put given)
    -- what stands in the place fits
    pub fits : Fits d at
    -- and what occurs there occurs in t
    pub occurs : (x : Var) → Occurs x (plain at) → Occurs x (plain t)
    -- it is enough that t's variables have the same values modulo the axioms
    pub makes : (given : FlatTerm) (by : Substitution) → AgreeOn d (plain t) by s →
        BEqual d (apply by (plain given)) v → BEqual d (apply by (plain (put given))) u

module _ (d : Declarations) (equations : Equations) (s : Substitution) where
  -- a part of t is no variable, and its instance is a redex; one operator heads the part, its instance, and the left side of a rule
  pub record StepsAtPart (t : FlatTerm) (u : Term) : Type 0 where
    pub at : FlatTerm
    pub operator : OpId
    pub heads : head_of at ≡ Some operator
    pub value : Term
    pub redex : IsRedex d equations (canon d (apply s (plain at))) value
    pub same_operator : redex.operator ≡ operator
    -- modulo the axioms, the instance of the part is that of the left side
    pub matches : BEqual d (apply s (plain at)) (apply redex.by (plain redex.left))
    pub place : IsPlaceOf d s at t value u

  -- a variable of t has a reducible value, which the step changes at one place of the variable
  pub record StepsInValue (t : FlatTerm) (u : Term) : Type 0 where
    pub variable : Var
    pub value : Term
    pub step : Rewrites d equations (s variable) value
    pub place : IsPlaceOf d s (fvar variable) t value u
