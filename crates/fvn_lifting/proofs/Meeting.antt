-- A reducible instance with irreducible values meets a needed rule at a place of a form.
use Rattle.std.proofs.Common.{◌≡◌, ◌∙◌, List, [], ◌∷◌, map, Some, ap, subst, inl, inr}
use Rattle.std.specs.List.{Any, Contains}
use Rattle.fvn_base.proofs.Membership.{contains_here, contains_later}
use Rattle.fvn_terms.specs.declared.plain.Var.{Var}
use Rattle.fvn_terms.specs.declared.declarations.Declarations.{Declarations}
use Rattle.fvn_terms.specs.Term.{Term}
use Rattle.fvn_terms.specs.Substitution.{Substitution, apply, followed_by, Occurs}
use Rattle.fvn_terms.specs.Equality.{BEqual}
use Rattle.fvn_terms.specs.Sorts.{IsWellSorted}
use Rattle.fvn_terms.specs.Theory.{Equations}
use Rattle.fvn_terms.specs.Rewriting.{Rewrites, IsIrreducible, ListRewrites}
use Rattle.fvn_terms.proofs.Substitutions.{apply-apply}
use Rattle.fvn_terms.proofs.Equal.{BEqual-apply, BEqual-sym, BEqual-trans}
use Rattle.fvn_terms.proofs.WellSorted.{IsWellSorted-followed_by}
use Rattle.fvn_forms.specs.Flat.{FlatTerm, FlatTerms, plain}
use Rattle.fvn_theory.specs.Equations.{equations_of}
use Rattle.fvn_flat.specs.Fits.{Fits, AllFit}
use Rattle.fvn_flat.specs.Forms.{head_of}
use Rattle.fvn_flat.specs.FlatPlaces.{IsReplaced, IsReplacedAmong, IsAtPlace, here, inside, first, later}
use Rattle.fvn_rewrite_coherence.specs.InstanceSteps.{StepsAtPart}
use Rattle.fvn_rewrite_coherence.specs.Laws.{InstanceLaws}
use Rattle.fvn_rewrite_rules.specs.Given.{RuleLists, AreRules}
use Rattle.fvn_lifting.specs.Turns.{MeetsRule}

-- what is replaced at a place stands there
mutual
  at_place : {u v t w : FlatTerm} → IsReplaced u v t w → IsAtPlace u t
  at_place here = here
  at_place (inside r) = inside (at_place_among r)

  at_place_among : {u v : FlatTerm} {ts us : FlatTerms} → IsReplacedAmong u v ts us → IsReplacedAmong u u ts ts
  at_place_among (first r) = first (at_place r)
  at_place_among (later r) = later (at_place_among r)

-- the member of the list that steps
record SteppingMember (d : Declarations) (equations : Equations) (s : Substitution) (terms : List FlatTerm) : Type 0 where
  member : FlatTerm
  listed : Contains terms member
  fits : Fits d member
  to : Term
  step : Rewrites d equations (apply s (plain member)) to

stepping : (d : Declarations) (equations : Equations) (s : Substitution) (terms : List FlatTerm) (us : List Term) → AllFit d terms → ListRewrites d equations (map (apply s) (map plain terms)) us → SteppingMember d equations s terms
stepping d equations s [] us fit l = absurd l
stepping d equations s (t ∷ ts) [] fit l = absurd l
stepping d equations s (t ∷ ts) (u ∷ us) fit (inl l) = record { member = t; listed = contains_here t ts; fits = fit.0; to = u; step = l.0 }
stepping d equations s (t ∷ ts) (u ∷ us) fit (inr l) =
    let w = stepping d equations s ts us fit.1 l.1 in
    record { member = w.member; listed = contains_later t ts w.member w.listed; fits = w.fits; to = w.to; step = w.step }

module _ (d : Declarations) (lists : RuleLists) (rules : AreRules d lists) (s : Substitution) (sorted : IsWellSorted d s) where
  abbrev equations : Equations
  equations = equations_of lists.equations

  -- the redex of a part is one of a needed rule
  at_part : (terms : List FlatTerm) (t : FlatTerm) (u : Term) → Contains terms t → StepsAtPart d equations s t u → MeetsRule d lists terms s
  at_part terms t u listed p =
      let same : head_of p.redex.left ≡ Some p.operator = p.redex.heads_left ∙ ap Some p.same_operator in
      let needed = rules.enough p.operator p.redex.left p.redex.right p.redex.rule same in
      let rule = needed.0 in
      let general = needed.1.1 in
      let back : BEqual d (apply (followed_by general.by p.redex.by) (plain rule.left)) (apply p.redex.by (plain p.redex.left)) =
      subst (λ a. BEqual d a (apply p.redex.by (plain p.redex.left))) (apply-apply general.by p.redex.by (plain rule.left)) (BEqual-apply d p.redex.by p.redex.well_sorted.0 general.left) in
      record {
        at = p.at;
        rule = rule;
        turn = record { term = t; listed = listed; at_place = at_place (p.place.replaces p.at); operator = p.operator; heads = p.heads; needed = needed.1.0 };
        by = followed_by general.by p.redex.by;
        meets = record {
          left = sorted;
          right = IsWellSorted-followed_by d general.by p.redex.by general.well_sorted p.redex.well_sorted;
          equal = BEqual-trans d p.matches (BEqual-sym d back);
        };
      }

  pub meets_rule : ((t : FlatTerm) → Fits d t → InstanceLaws d equations t s) → (terms : List FlatTerm) → AllFit d terms →
      ((x : Var) → Any (λ t. Occurs x (plain t)) terms → IsIrreducible d equations (s x)) →
      (us : List Term) → ListRewrites d equations (map (apply s) (map plain terms)) us → MeetsRule d lists terms s
  meets_rule laws terms fit irreducible us l =
      let w = stepping d equations s terms us fit l in
      at_part terms w.member w.to w.listed
      ((laws w.member w.fits).at_part (λ x o. irreducible x (w.listed.0, w.member, w.listed.1, w.listed.2, o)) w.to w.step)
