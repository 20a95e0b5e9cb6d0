-- Steps at places of flat forms, with the rules of a module.
-- G. E. Peterson and M. E. Stickel, Complete sets of reductions for some equational theories, 1981.
use Rattle.std.specs.Prelude.{◌≡◌, Some}
use Rattle.fvn_terms.specs.declared.plain.OpId.{OpId}
use Rattle.fvn_terms.specs.declared.declarations.Declarations.{Declarations}
use Rattle.fvn_terms.specs.Term.{Term}
use Rattle.fvn_terms.specs.Substitution.{Substitution, apply}
use Rattle.fvn_terms.specs.Equality.{BEqual}
use Rattle.fvn_terms.specs.Sorts.{IsWellSorted}
use Rattle.fvn_terms.specs.Theory.{Equations}
use Rattle.fvn_forms.specs.Flat.{FlatTerm, plain}
use Rattle.fvn_flat.specs.Forms.{head_of}
use Rattle.fvn_flat.specs.FlatPlaces.{IsReplaced}
use Rattle.fvn_flat.specs.Rules.{IsRuleOf}

module _ (d : Declarations) (equations : Equations) where
  -- The form is an instance of the left side of a rule, and the term the same instance of its right side.
  -- One operator heads the form and the left side.
  pub record IsRedex (t : FlatTerm) (u : Term) : Type 0 where
    pub left : FlatTerm
    pub right : FlatTerm
    pub rule : IsRuleOf d equations left right
    pub operator : OpId
    pub heads_form : head_of t ≡ Some operator
    pub heads_left : head_of left ≡ Some operator
    pub by : Substitution
    pub well_sorted : IsWellSorted d by
    pub matches : BEqual d (plain t) (apply by (plain left))
    pub gives : BEqual d (apply by (plain right)) u

  -- at one place of the form stands a redex; put in its place, what it gives makes the term, modulo the axioms
  pub record StepsAtPlace (t : FlatTerm) (u : Term) : Type 0 where
    pub at : FlatTerm
    pub given : FlatTerm
    pub redex : IsRedex at (plain given)
    pub replaced : FlatTerm
    pub replaces : IsReplaced at given t replaced
    pub makes : BEqual d (plain replaced) u
