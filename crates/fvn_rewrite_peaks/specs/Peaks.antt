-- Two places of one form, and two steps from one term.
-- D. E. Knuth and P. B. Bendix, Simple word problems in universal algebras, 1970.
-- G. E. Peterson and M. E. Stickel, Complete sets of reductions for some equational theories, 1981.
use Rattle.fvn_terms.specs.declared.plain.Var.{Var}
use Rattle.fvn_terms.specs.declared.declarations.Declarations.{Declarations}
use Rattle.fvn_terms.specs.Term.{Term}
use Rattle.fvn_terms.specs.Substitution.{Substitution, apply, Occurs}
use Rattle.fvn_terms.specs.Signature.{IsTerm}
use Rattle.fvn_terms.specs.Equality.{BEqual}
use Rattle.fvn_terms.specs.Sorts.{IsWellSorted}
use Rattle.fvn_terms.specs.Theory.{Equations}
use Rattle.fvn_terms.specs.Rewriting.{Rewrites, AreJoinable}
use Rattle.fvn_forms.specs.Flat.{FlatTerm, plain}
use Rattle.fvn_flat.specs.Fits.{Fits}
use Rattle.fvn_flat.specs.FlatPlaces.{IsReplaced}
use Rattle.fvn_flat.specs.Rules.{IsRuleOf}
use Rattle.fvn_rewrite_coherence.specs.InstanceSteps.{StepsAtPart}

-- One form became t where a was replaced by g, and u where b was replaced by h. The two places are apart, so that each
-- may be replaced after the other; or b stands within a, and t becomes u where g is replaced by what a becomes; or a
-- within b.
pub data AreTwoPlaces (a g b h t u : FlatTerm) : Type 0 where
  apart : {w : FlatTerm} → IsReplaced b h t w → IsReplaced a g u w → AreTwoPlaces a g b h t u
  within_first : {k : FlatTerm} → IsReplaced b h a k → IsReplaced g k t u → AreTwoPlaces a g b h t u
  within_second : {k : FlatTerm} → IsReplaced a g b k → IsReplaced k h t u → AreTwoPlaces a g b h t u

module _ (d : Declarations) (equations : Equations) where
  -- two steps from one term lead to terms that are joinable
  abbrev pub StepsJoin : Type 0
  StepsJoin =
      (t u v : Term) → IsTerm d t → Rewrites d equations t u → Rewrites d equations t v → AreJoinable d equations u v

  -- Where a part of the left form, and no variable, has a redex as its instance, the step there and the instance of the
  -- right form are joinable.
  abbrev pub JoinsAtParts : FlatTerm → FlatTerm → Type 0
  JoinsAtParts left right =
      (s : Substitution) → IsWellSorted d s → (u : Term) → StepsAtPart d equations s left u →
      AreJoinable d equations (apply s (plain right)) u

  -- Where a part of a rule's left side, and no variable, has a redex as its instance, the step there and the rule's own
  -- lead to terms that are joinable.
  abbrev pub OverlapsJoin : Type 0
  OverlapsJoin = (left right : FlatTerm) → IsRuleOf d equations left right → JoinsAtParts left right

  -- the instance of both sides by s is that of both forms by another well-sorted substitution, modulo the axioms
  pub record IsInstanceOfForms (left right l r : FlatTerm) (s : Substitution) : Type 0 where
    pub by : Substitution
    pub well_sorted : IsWellSorted d by
    pub left_is : BEqual d (apply by (plain left)) (apply s (plain l))
    pub right_is : BEqual d (apply by (plain right)) (apply s (plain r))

  -- Both forms stand for the sides l and r of a rule: each instance of these is one of the forms, each well-sorted
  -- instance of the left form steps to that of the right one, and no variable is in the right form alone.
  pub record StandForRule (left right l r : FlatTerm) : Type 0 where
    pub fits : Fits d left
    pub brings_none : (x : Var) → Occurs x (plain right) → Occurs x (plain left)
    pub steps : (s : Substitution) → IsWellSorted d s → Rewrites d equations (apply s (plain left)) (apply s (plain right))
    pub instances : (s : Substitution) → IsWellSorted d s → IsInstanceOfForms left right l r s

  -- for each rule some forms stand for its sides, whose overlaps join
  abbrev pub StandInsJoin : Type 0
  StandInsJoin =
      (l r : FlatTerm) → IsRuleOf d equations l r →
      (left : FlatTerm) × (right : FlatTerm) × StandForRule left right l r × JoinsAtParts left right
