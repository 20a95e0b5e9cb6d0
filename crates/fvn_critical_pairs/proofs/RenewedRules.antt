-- Rules with new variables: they fit, bring no variable, and their instances are steps.
use Rattle.std.proofs.Common.{◌≡◌, ◌⊎◌, ℕ, true, false, inl, inr, refl, sym, ◌∙◌, subst, arith}
use Rattle.std.specs.Prelude.{Contains}
use Rattle.fvn_base.specs.Decided.{Decided}
use Rattle.fvn_terms.specs.declared.plain.Var.{Var}
use Rattle.fvn_terms.specs.declared.plain.SortId.{SortId}
use Rattle.fvn_terms.specs.declared.declarations.Declarations.{Declarations}
use Rattle.fvn_terms.specs.Term.{var}
use Rattle.fvn_terms.specs.Substitution.{Substitution, apply, Occurs}
use Rattle.fvn_terms.specs.Signature.{HasKind}
use Rattle.fvn_terms.specs.Places.{stop}
use Rattle.fvn_terms.specs.Equality.{BEqual}
use Rattle.fvn_terms.specs.Sorts.{IsWellSorted}
use Rattle.fvn_terms.specs.Theory.{Equations}
use Rattle.fvn_terms.specs.Rewriting.{Rewrites}
use Rattle.fvn_terms.specs.Laws.{RewritingLaws}
use Rattle.fvn_terms.proofs.Equal.{BEqual-sym}
use Rattle.fvn_terms.proofs.Occurrences.{occurs_value, occurs_instance, BEqual-occurs}
use Rattle.fvn_forms.specs.Flat.{FlatTerm, plain}
use Rattle.fvn_flat.specs.Drawn.{renamed}
use Rattle.fvn_flat.specs.Fits.{Fits}
use Rattle.fvn_flat.specs.Rules.{IsRuleOf}
use Rattle.fvn_flat.specs.Successors.{renamed_form}
use Rattle.fvn_rewrite_laws.specs.Kinds.{HasOneKind}
use Rattle.fvn_rewrite_laws.specs.Laws.{RuleLaws}
use Rattle.fvn_theory.specs.Equations.{equations_of}
use Rattle.fvn_rewrite_rules.specs.declared.rule.Rule.{Rule}
use Rattle.fvn_rewrite_rules.specs.Given.{RuleLists}
use Rattle.fvn_lifting.specs.Laws.{AreUsed}
use Rattle.fvn_lifting.proofs.Chosen.{occurs_or_not, either_or}
use Rattle.fvn_lifting.proofs.Renamed.{renamed_form_equal, renamed_form_kind, renamed_form_fits}
use Rattle.fvn_lifting.proofs.Stepping.{renamed_rule_steps}
use Rattle.fvn_critical_pairs.specs.Overlaps.{OccursInRule, IsNumberedUpTo, IsRenewed}
use Rattle.fvn_critical_pairs.proofs.GivenRules.{sides_of_kind, brings_none}

-- an old variable is none of the new ones
pub old_is_not_new : (x : Var) (next : ℕ) → (x.fresh ≡ false) ⊎ (x.name ≡ 0) → IsNumberedUpTo next x → ⊥
old_is_not_new x next (inl f) n = let e : true ≡ false = sym n.fresh ∙ f in cc
old_is_not_new x next (inr z) n = let low = n.low in absurd (omega arith)

module _ (d : Declarations) (lists : RuleLists) (used : AreUsed d (equations_of lists.equations) lists) (rules : RuleLaws d (equations_of lists.equations))
    (next : ℕ) (rule new : Rule) (given : Contains lists.rules rule) (is : IsRenewed d next rule new) where
  among_or_not : (x : Var) → Decided (OccursInRule rule x)
  among_or_not x = either_or (occurs_or_not x (plain rule.left)) (occurs_or_not x (plain rule.right))

  -- a side of the rule
  module _ (t : FlatTerm) (k : SortId) (kinded : HasKind d (plain t) k) (within : (x : Var) → Occurs x (plain t) → OccursInRule rule x) where
    side_equal : BEqual d (renamed is.by (plain t)) (plain (renamed_form d is.by t))
    side_equal = renamed_form_equal d (OccursInRule rule) among_or_not is.by is.renames used.good t k kinded within

    pub side_fits : Fits d (renamed_form d is.by t)
    side_fits = renamed_form_fits d (OccursInRule rule) among_or_not is.by is.renames used.good t k kinded within

    pub side_kind : HasKind d (plain (renamed_form d is.by t)) k
    side_kind = renamed_form_kind d (OccursInRule rule) among_or_not is.by is.renames used.good t k kinded within

    pub occurs_before : (y : Var) → Occurs y (plain (renamed_form d is.by t)) → (x : Var) × (Occurs x (plain t) × (y ≡ is.by x))
    occurs_before y o =
        let p = occurs_value y (λ x. var (is.by x)) (plain t) (BEqual-occurs y d (renamed is.by (plain t)) (plain (renamed_form d is.by t)) side_equal o) in
        (p.0, (p.1.0, p.1.1))

    pub occurs_after : (x : Var) → Occurs x (plain t) → Occurs (is.by x) (plain (renamed_form d is.by t))
    occurs_after x o =
        BEqual-occurs (is.by x) d (plain (renamed_form d is.by t)) (renamed is.by (plain t)) (BEqual-sym d side_equal) (occurs_instance (is.by x) (λ z. var (is.by z)) (plain t) x o refl)

  abbrev kinds : HasOneKind d (plain rule.left, plain rule.right)
  kinds = sides_of_kind d lists used rules rule given

  pub new_left_fits : Fits d new.left
  new_left_fits = subst (Fits d) (sym is.left) (side_fits rule.left kinds.kind kinds.left (λ x o. inl o))

  pub new_right_fits : Fits d new.right
  new_right_fits = subst (Fits d) (sym is.right) (side_fits rule.right kinds.kind kinds.right (λ x o. inr o))

  pub new_brings_none : (y : Var) → Occurs y (plain new.right) → Occurs y (plain new.left)
  new_brings_none y o =
      let p = occurs_before rule.right kinds.kind kinds.right (λ x i. inr i) y (subst (λ t. Occurs y (plain t)) is.right o) in
      let q = occurs_after rule.left kinds.kind kinds.left (λ x i. inl i) p.0 (brings_none d lists used rules rule given p.0 p.1.0) in
      subst (λ t. Occurs y (plain t)) (sym is.left) (subst (λ z. Occurs z (plain (renamed_form d is.by rule.left))) (sym p.1.1) q)

  -- by any equations of which it is a rule
  module _ (equations : Equations) (rewriting : RewritingLaws d equations) (of_these : RuleLaws d equations) (made : IsRuleOf d equations rule.left rule.right) where
    pub new_steps : (s : Substitution) → IsWellSorted d s → Rewrites d equations (apply s (plain new.left)) (apply s (plain new.right))
    new_steps s sorted =
        subst (λ t. Rewrites d equations (apply s (plain new.left)) (apply s (plain t))) (sym is.right)
        (renamed_rule_steps d used.good equations rewriting of_these rule.left rule.right made is.by is.renames s sorted (apply s (plain new.left))
        (subst (λ t. BEqual d (apply s (plain t)) (apply s (plain new.left))) is.left stop))
