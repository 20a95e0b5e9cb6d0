-- Where all overlaps join of rules that subsume the given ones, forms stand for all rules whose overlaps join.
use Rattle.std.proofs.Common.{◌≡◌, ℕ, [], ◌∷◌, Some, None, inl, inr, refl, sym, ap, ◌∙◌, subst}
use Rattle.std.specs.Prelude.{List, Contains}
use Rattle.fvn_terms.specs.declared.plain.Var.{Var}
use Rattle.fvn_terms.specs.declared.plain.OpId.{OpId}
use Rattle.fvn_terms.specs.declared.declarations.Declarations.{Declarations}
use Rattle.fvn_terms.specs.Term.{Term}
use Rattle.fvn_terms.specs.Substitution.{Substitution, apply, Occurs}
use Rattle.fvn_terms.specs.Places.{stop}
use Rattle.fvn_terms.specs.Equality.{BEqual}
use Rattle.fvn_terms.specs.Sorts.{IsWellSorted}
use Rattle.fvn_terms.specs.Theory.{Equations}
use Rattle.fvn_terms.specs.Rewriting.{AreJoinable}
use Rattle.fvn_terms.specs.Laws.{RewritingLaws}
use Rattle.fvn_terms.proofs.Equal.{BEqual-sym, BEqual-trans}
use Rattle.fvn_forms.specs.Flat.{FlatTerm, fvar, plain}
use Rattle.fvn_flat.specs.Forms.{head_of}
use Rattle.fvn_flat.specs.Rules.{IsRuleOf}
use Rattle.fvn_rewrite_laws.specs.Agreement.{AgreeOn}
use Rattle.fvn_rewrite_laws.specs.Laws.{SequenceLaws, AgreementLaws, RuleLaws}
use Rattle.fvn_rewrite_coherence.specs.InstanceSteps.{StepsAtPart}
use Rattle.fvn_theory.specs.Equations.{equations_of}
use Rattle.fvn_rewrite_rules.specs.declared.rule.Rule.{Rule}
use Rattle.fvn_rewrite_rules.specs.Given.{RuleLists, IsRenamedRule}
use Rattle.fvn_rewrite_peaks.specs.Peaks.{IsInstanceOfForms, StandInsJoin}
use Rattle.fvn_places.specs.Paths.{LeadsTo}
use Rattle.fvn_places.specs.Putting.{put_along}
use Rattle.fvn_places.proofs.PathFacts.{HasPath, path_along}
use Rattle.fvn_lifting.proofs.Chosen.{chosen as chosen_of, chosen_if, chosen_unless, occurs_or_not}
use Rattle.fvn_lifting.specs.Laws.{AreUsed, RenamedFormsHaveTheSameInstances}
use Rattle.fvn_critical_pairs.specs.Overlaps.{Overlap, inner_result, Subsumes, SomeSubsumes, SubsumeAll, IsOverlapWith, JoinsWhere, JoinsWhole, JoinEitherWay, IsJoined}
use Rattle.fvn_critical_pairs.specs.Laws.{AreAllJoined}
use Rattle.fvn_critical_pairs.proofs.Heads.{renamed_head, head_before}
use Rattle.fvn_critical_pairs.proofs.GivenRules.{sides_fit, given_rule, is_rule, old, left_fits, right_fits, sides_of_kind, brings_none}
use Rattle.fvn_critical_pairs.proofs.RenewedRules.{old_is_not_new, new_left_fits, new_brings_none, new_steps}
use Rattle.fvn_critical_pairs.proofs.Instances.{renamed_instance, instance_again, special_instance, instance_before}

module _ (d : Declarations) (lists : RuleLists) (used : AreUsed d (equations_of lists.equations) lists) (rewriting : RewritingLaws d (equations_of lists.equations))
    (sequences : SequenceLaws d (equations_of lists.equations)) (agreement : AgreementLaws d (equations_of lists.equations)) (rules : RuleLaws d (equations_of lists.equations))
    (same : RenamedFormsHaveTheSameInstances) (chosen : List Rule) (choice : SubsumeAll d lists.rules chosen) where
  abbrev equations : Equations
  equations = equations_of lists.equations

  -- a rule of the equations, the given one that it is up to a renaming, and the chosen one that subsumes that
  module _ (l r : FlatTerm) (of_these : IsRuleOf d equations l r) where
    abbrev found : (rule : Rule) × (Contains lists.rules rule × IsRenamedRule d l r rule)
    found = given_rule d lists used rules l r of_these

    renamed : IsRenamedRule d l r found.0
    renamed = found.1.1

    abbrev general : SomeSubsumes d chosen found.0
    general = choice.enough found.0 found.1.0

    abbrev pub stand_in : Rule
    stand_in = general.0

    pub stand_in_chosen : Contains chosen stand_in
    stand_in_chosen = general.1.0

    pub stand_in_given : Contains lists.rules stand_in
    stand_in_given = choice.given stand_in stand_in_chosen

    subsumes : Subsumes d stand_in found.0
    subsumes = general.1.1

    pub stand_in_instance : (s : Substitution) → IsWellSorted d s → IsInstanceOfForms d equations stand_in.left stand_in.right l r s
    stand_in_instance s sorted =
        let fit = sides_fit d lists used rules l r of_these in
        let first = renamed_instance d equations used.good same l r found.0.left found.0.right fit.0 fit.1 renamed.by renamed.renames renamed.left renamed.right s sorted in
        instance_again d equations used.good same l r found.0.left found.0.right stand_in.left stand_in.right s first (special_instance d equations used.good same stand_in found.0 subsumes first.by first.well_sorted)

    pub stand_in_head : (f : OpId) → head_of l ≡ Some f → head_of stand_in.left ≡ Some f
    stand_in_head f e = subsumes.head ∙ ap head_of renamed.left ∙ renamed_head d renamed.by f l (sides_fit d lists used rules l r of_these).0.flat e

  -- terms that are equal to joinable ones
  moved : (t u v w : Term) → BEqual d t v → BEqual d u w → AreJoinable d equations t u → AreJoinable d equations v w
  moved t u v w f g k = record {
    left = k.left;
    right = k.right;
    left_steps = k.left_steps;
    right_steps = k.right_steps;
    left_reached = sequences.before k.left_steps t v k.left f k.left_reached;
    right_reached = sequences.before k.right_steps u w k.right g k.right_reached;
    equal = k.equal;
  }

  turned : (t u : Term) → AreJoinable d equations t u → AreJoinable d equations u t
  turned t u k = record {
    left = k.right;
    right = k.left;
    left_steps = k.right_steps;
    right_steps = k.left_steps;
    left_reached = k.right_reached;
    right_reached = k.left_reached;
    equal = BEqual-sym d k.equal;
  }

  -- two rules that join where their whole left sides overlap
  whole_joins : (a b : Rule) → Contains lists.rules a → Contains lists.rules b → JoinsWhole d equations a b → (s c : Substitution) → IsWellSorted d s → IsWellSorted d c →
      BEqual d (apply s (plain a.left)) (apply c (plain b.left)) → AreJoinable d equations (apply s (plain a.right)) (apply c (plain b.right))
  whole_joins a b a_given b_given w s c s_sorted c_sorted equal =
      let m = renamed_instance d equations used.good same a.left a.right w.new.left w.new.right (left_fits d lists used rules a a_given) (right_fits d lists used rules a a_given) w.renewed.by w.renewed.renames w.renewed.left w.renewed.right s s_sorted in
      let j = w.joins m.by c record { left = m.well_sorted; right = c_sorted; equal = BEqual-trans d m.left_is equal } in
      let outer = BEqual-trans d (agreement.terms j.by m.by (plain w.new.right) (λ x o. j.outer x (new_brings_none d lists used rules w.next a w.new a_given w.renewed x o))) m.right_is in
      let inner = agreement.terms j.by c (plain b.right) (λ x o. j.inner x (brings_none d lists used rules b b_given x o)) in
      moved (apply j.by (plain w.new.right)) (apply j.by (plain b.right)) (apply s (plain a.right)) (apply c (plain b.right)) outer inner j.joins

  joins_either_way : (a b : Rule) → Contains lists.rules a → Contains lists.rules b → JoinEitherWay d equations a b → (s c : Substitution) → IsWellSorted d s → IsWellSorted d c →
      BEqual d (apply s (plain a.left)) (apply c (plain b.left)) → AreJoinable d equations (apply s (plain a.right)) (apply c (plain b.right))
  joins_either_way a b a_given b_given (inl w) s c s_sorted c_sorted equal = whole_joins a b a_given b_given w s c s_sorted c_sorted equal
  joins_either_way a b a_given b_given (inr w) s c s_sorted c_sorted equal =
      turned (apply c (plain b.right)) (apply s (plain a.right)) (whole_joins b a b_given a_given w c s c_sorted s_sorted (BEqual-sym d equal))

  -- a rule with new variables whose overlaps join
  module _ (rule : Rule) (given : Contains lists.rules rule) (j : IsJoined d equations lists chosen rule) where
    abbrev left : FlatTerm
    left = j.new.left

    abbrev right : FlatTerm
    right = j.new.right

    -- a step at a part of an instance
    module _ (s : Substitution) (sorted : IsWellSorted d s) (u : Term) (part : StepsAtPart d equations s left u) where
      abbrev inner : Rule
      inner = stand_in part.redex.left part.redex.right part.redex.rule

      made : IsInstanceOfForms d equations inner.left inner.right part.redex.left part.redex.right part.redex.by
      made = stand_in_instance part.redex.left part.redex.right part.redex.rule part.redex.by part.redex.well_sorted

      inner_given : Contains lists.rules inner
      inner_given = stand_in_given part.redex.left part.redex.right part.redex.rule

      inner_chosen : Contains chosen inner
      inner_chosen = stand_in_chosen part.redex.left part.redex.right part.redex.rule

      inner_head : head_of inner.left ≡ Some part.operator
      inner_head = stand_in_head part.redex.left part.redex.right part.redex.rule part.operator (part.redex.heads_left ∙ ap Some part.same_operator)

      no_variable : (x : Var) → part.at ≡ fvar x → ⊥
      no_variable x e = let q : None ≡ Some part.operator = sym (ap head_of e) ∙ part.heads in cc

      place : HasPath part.at inner.right left (part.place.put inner.right)
      place = path_along no_variable (part.place.replaces inner.right)

      value_made : BEqual d (apply made.by (plain inner.right)) part.value
      value_made = BEqual-trans d made.right_is part.redex.gives

      -- where the whole left side is the part
      module _ (at_root : place.path ≡ []) where
        whole_is : left ≡ part.at
        whole_is = subst (λ p. LeadsTo p left part.at) at_root place.leads

        put_is : part.place.put inner.right ≡ inner.right
        put_is = place.along ∙ ap (λ p. put_along p left inner.right) at_root

        rule_head : head_of rule.left ≡ Some part.operator
        rule_head =
            head_before d j.renewed.by part.operator rule.left (left_fits d lists used rules rule given).flat
            (subst (λ t. head_of t ≡ Some part.operator) j.renewed.left (ap head_of whole_is ∙ part.heads))

        before : IsInstanceOfForms d equations rule.left rule.right left right s
        before =
            let kinds = sides_of_kind d lists used rules rule given in
            instance_before d equations used.good same rule.left rule.right (kinds.kind, kinds.left) (kinds.kind, kinds.right) j.renewed.by j.renewed.renames left right j.renewed.left j.renewed.right s sorted

        meets : BEqual d (apply before.by (plain rule.left)) (apply made.by (plain inner.left))
        meets =
            BEqual-trans d before.left_is
            (BEqual-trans d (subst (λ t. BEqual d (apply s (plain t)) (apply part.redex.by (plain part.redex.left))) (sym whole_is) part.matches) (BEqual-sym d made.left_is))

        -- the values of s on the left side, and those that make the inner rule elsewhere
        abbrev values : Substitution
        values x = chosen_of (occurs_or_not x (plain left)) (s x) (made.by x)

        values_left : AgreeOn d (plain left) values s
        values_left x o = subst (λ v. BEqual d v (s x)) (sym (chosen_if (occurs_or_not x (plain left)) (s x) (made.by x) o)) stop

        not_left : (x : Var) → Occurs x (plain inner.right) → Occurs x (plain left) → ⊥
        not_left x o i = old_is_not_new x j.next (old d lists used rules inner inner_given x (inl (brings_none d lists used rules inner inner_given x o))) (j.renewed.numbers x (inl i))

        values_inner : AgreeOn d (plain inner.right) values made.by
        values_inner x o = subst (λ v. BEqual d v (made.by x)) (sym (chosen_unless (occurs_or_not x (plain left)) (s x) (made.by x) (not_left x o))) stop

        made_result : BEqual d (apply made.by (plain inner.right)) u
        made_result =
            let inner_values = agreement.terms values made.by (plain inner.right) values_inner in
            BEqual-trans d (BEqual-sym d inner_values)
            (subst (λ w. BEqual d (apply values (plain w)) u) put_is (part.place.makes inner.right values values_left (BEqual-trans d inner_values value_made)))

        joins_at_root : AreJoinable d equations (apply s (plain right)) u
        joins_at_root =
            moved (apply before.by (plain rule.right)) (apply made.by (plain inner.right)) (apply s (plain right)) u before.right_is made_result
            (joins_either_way rule inner given inner_given (j.whole inner inner_chosen part.operator rule_head inner_head) before.by made.by before.well_sorted made.well_sorted meets)

      abbrev overlap : Overlap
      overlap = record { outer = j.new; path = place.path; at = part.at; inner = inner }

      overlaps : IsOverlapWith lists overlap
      overlaps = record { listed = place.listed; leads = place.leads; operator = part.operator; heads = part.heads; given = inner_given; heads_inner = inner_head }

      -- where it is a part within
      module _ (within : place.path ≡ [] → ⊥) where
        joined : JoinsWhere d equations overlap s made.by
        joined = j.joins overlap refl overlaps inner_chosen within s made.by record {
          left = sorted;
          right = made.well_sorted;
          equal = BEqual-trans d part.matches (BEqual-sym d made.left_is);
        }

        agrees_right : AgreeOn d (plain right) joined.by s
        agrees_right x o = joined.outer x (new_brings_none d lists used rules j.next rule j.new given j.renewed x o)

        agrees_inner : AgreeOn d (plain inner.right) joined.by made.by
        agrees_inner x o = joined.inner x (brings_none d lists used rules inner inner_given x o)

        outer_result : BEqual d (apply joined.by (plain right)) (apply s (plain right))
        outer_result = agreement.terms joined.by s (plain right) agrees_right

        value_is : BEqual d (apply joined.by (plain inner.right)) part.value
        value_is = BEqual-trans d (agreement.terms joined.by made.by (plain inner.right) agrees_inner) value_made

        result_is : BEqual d (apply joined.by (plain (inner_result overlap))) u
        result_is = subst (λ w. BEqual d (apply joined.by (plain w)) u) place.along (part.place.makes inner.right joined.by joined.outer value_is)

        joins_within : AreJoinable d equations (apply s (plain right)) u
        joins_within = moved (apply joined.by (plain right)) (apply joined.by (plain (inner_result overlap))) (apply s (plain right)) u outer_result result_is joined.joins

      pub joins_at_part : AreJoinable d equations (apply s (plain right)) u
      joins_at_part = go place.path refl
        where
          go : (p : List ℕ) → place.path ≡ p → AreJoinable d equations (apply s (plain right)) u
          go [] e = joins_at_root e
          go (i ∷ p) e = joins_within (λ q. let z : i ∷ p ≡ [] = sym e ∙ q in cc)

  pub stand_ins_join : AreAllJoined d lists chosen → StandInsJoin d equations
  stand_ins_join all l r of_these =
      let rule = stand_in l r of_these in
      let given = stand_in_given l r of_these in
      let j = all rule (stand_in_chosen l r of_these) in (
        j.new.left,
        j.new.right,
        record {
          fits = new_left_fits d lists used rules j.next rule j.new given j.renewed;
          brings_none = new_brings_none d lists used rules j.next rule j.new given j.renewed;
          steps = new_steps d lists used rules j.next rule j.new given j.renewed equations rewriting rules (is_rule d lists used rules rule given);
          instances = λ s sorted.
              let first = stand_in_instance l r of_these s sorted in
              instance_again d equations used.good same l r rule.left rule.right j.new.left j.new.right s first
              (renamed_instance d equations used.good same rule.left rule.right j.new.left j.new.right (left_fits d lists used rules rule given) (right_fits d lists used rules rule given) j.renewed.by j.renewed.renames j.renewed.left j.renewed.right first.by first.well_sorted);
        },
        λ s sorted u part. joins_at_part rule given j s sorted u part,
      )
