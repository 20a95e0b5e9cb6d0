-- Both results of an overlap are reached by one step.
use Rattle.std.proofs.Common.{◌≡◌, ℕ, [], ◌∷◌, refl, ◌∙◌}
use Rattle.std.specs.Prelude.{Contains}
use Rattle.std.proofs.lemmas.List.Elements.{All-head}
use Rattle.fvn_base.proofs.Membership.{contains_here}
use Rattle.fvn_terms.specs.declared.declarations.Declarations.{Declarations}
use Rattle.fvn_terms.specs.Term.{Term}
use Rattle.fvn_terms.specs.Substitution.{Substitution, apply}
use Rattle.fvn_terms.specs.Places.{stop}
use Rattle.fvn_terms.specs.Equality.{BEqual}
use Rattle.fvn_terms.specs.Unifiers.{IsUnifier}
use Rattle.fvn_terms.specs.Theory.{Equations}
use Rattle.fvn_terms.specs.Rewriting.{Rewrites}
use Rattle.fvn_terms.specs.Laws.{RewritingIsLawful}
use Rattle.fvn_terms.proofs.Equal.{BEqual-sym}
use Rattle.fvn_forms.specs.Flat.{plain}
use Rattle.fvn_flat.specs.Rules.{IsRuleOf}
use Rattle.fvn_theory.specs.declared.equation.Equation.{Equation}
use Rattle.fvn_theory.specs.Equations.{sides_of, equations_of}
use Rattle.fvn_rewrite_laws.specs.Kinds.{HaveOneKind}
use Rattle.fvn_rewrite_laws.specs.Admissible.{IsAdmissible, AreAdmissible}
use Rattle.fvn_rewrite_laws.specs.Laws.{RuleLaws, RulesAreLawful}
use Rattle.fvn_rewrite_coherence.specs.Laws.{InstancesStepAtParts}
use Rattle.fvn_rewrite_rules.specs.declared.rule.Rule.{Rule}
use Rattle.fvn_rewrite_rules.specs.Given.{RuleLists, IsNumberedRule}
use Rattle.fvn_places.proofs.PathFacts.{put_replaces}
use Rattle.fvn_lifting.specs.Laws.{AreUsed}
use Rattle.fvn_critical_pairs.specs.Overlaps.{Overlap, inner_result, overlap_problem, IsOverlap}
use Rattle.fvn_critical_pairs.specs.Divergence.{StepsBy}
use Rattle.fvn_critical_pairs.specs.Laws.{AreBothReached}
use Rattle.fvn_critical_pairs.proofs.Single.{sides_listed, only_this}
use Rattle.fvn_critical_pairs.proofs.GivenRules.{numbered}
use Rattle.fvn_critical_pairs.proofs.RenewedRules.{new_left_fits, new_steps}

module _ (d : Declarations) (lists : RuleLists) (used : AreUsed d (equations_of lists.equations) lists) (rewriting : RewritingIsLawful) (rules : RulesAreLawful) (instances : InstancesStepAtParts) where
  pub all_kinds : HaveOneKind d (equations_of lists.equations)
  all_kinds sides i = (used.admissible sides i).kinded.kinds

  abbrev all_rules : RuleLaws d (equations_of lists.equations)
  all_rules = rules d used.good used.completed (equations_of lists.equations) all_kinds

  -- a given rule, and its equation alone
  module _ (rule : Rule) (given : Contains lists.rules rule) where
    abbrev number : IsNumberedRule d lists.equations rule
    number = numbered d lists used all_rules rule given

    abbrev pub equation : Equation
    equation = number.equation

    abbrev pub alone : Equations
    alone = sides_of equation ∷ []

    pub one_admissible : AreAdmissible d alone
    one_admissible = only_this (IsAdmissible d) (sides_of equation) (used.admissible (sides_of equation) (sides_listed lists.equations number.before equation number.is))

    pub one_lawful : RuleLaws d alone
    one_lawful = rules d used.good used.completed alone (λ sides i. (one_admissible sides i).kinded.kinds)

    pub rule_of_one : IsRuleOf d alone rule.left rule.right
    rule_of_one = (sides_of equation, contains_here (sides_of equation) [], number.made)

    pub steps_by : (n : ℕ) → n ≡ rule.equation → (t u : Term) → Rewrites d alone t u → StepsBy d lists.equations n t u
    steps_by n e t u step = record { before = number.before; number_is = e ∙ number.number; equation = equation; is = number.is; step = step }

  module _ (next : ℕ) (o : Overlap) (is : IsOverlap d lists next o) (s : Substitution) (unifies : IsUnifier d (overlap_problem o) s) where
    abbrev one : Equations
    one = alone o.inner is.overlaps.given

    abbrev IsMade : Term × Term → Type 0
    IsMade p = BEqual d (apply s p.0) (apply s p.1)

    meets : BEqual d (apply s (plain o.at)) (apply s (plain o.inner.left))
    meets = All-head IsMade (plain o.at, plain o.inner.left) [] unifies.1

    part_steps : Rewrites d one (apply s (plain o.at)) (apply s (plain o.inner.right))
    part_steps =
        (rewriting d one).modulo (apply s (plain o.inner.left)) (apply s (plain o.at)) (apply s (plain o.inner.right)) (apply s (plain o.inner.right)) (BEqual-sym d meets)
        ((one_lawful o.inner is.overlaps.given).steps o.inner.left o.inner.right (rule_of_one o.inner is.overlaps.given) s unifies.0) stop

    whole_steps : Rewrites d one (apply s (plain o.outer.left)) (apply s (plain (inner_result o)))
    whole_steps =
        (instances d used.good used.completed one (one_admissible o.inner is.overlaps.given) o.outer.left (new_left_fits d lists used all_rules next is.rule o.outer is.given is.renewed) s unifies.0).steps
        o.at o.inner.right (inner_result o) (put_replaces o.path o.outer.left o.at o.inner.right is.overlaps.leads) part_steps

    outer_steps : Rewrites d (alone is.rule is.given) (apply s (plain o.outer.left)) (apply s (plain o.outer.right))
    outer_steps =
        new_steps d lists used all_rules next is.rule o.outer is.given is.renewed (alone is.rule is.given) (rewriting d (alone is.rule is.given)) (one_lawful is.rule is.given) (rule_of_one is.rule is.given) s unifies.0

    pub both_reached : AreBothReached d lists.equations o s
    both_reached = record {
      outer = steps_by is.rule is.given o.outer.equation is.renewed.equation (apply s (plain o.outer.left)) (apply s (plain o.outer.right)) outer_steps;
      inner = steps_by o.inner is.overlaps.given o.inner.equation refl (apply s (plain o.outer.left)) (apply s (plain (inner_result o))) whole_steps;
    }
