-- What is found in all turns of a start is an expansion of the variant.
use Rattle.std.proofs.Common.{◌≡◌, ℕ, [], length, None, Some, refl, sym, ap, ◌∙◌, subst}
use Rattle.std.specs.Prelude.{◌⊎◌, List, All, Contains}
use Rattle.std.proofs.lemmas.Option.{slice_get_read}
use Rattle.std.proofs.lemmas.List.Elements.{All-nil, All-weaker}
use Rattle.fvn_terms.specs.declared.plain.Var.{Var}
use Rattle.fvn_terms.specs.declared.declarations.Declarations.{Declarations}
use Rattle.fvn_terms.specs.Theory.{Equations}
use Rattle.fvn_terms.specs.Substitution.{Substitution, apply}
use Rattle.fvn_terms.specs.Unifiers.{Problem}
use Rattle.fvn_forms.specs.Flat.{FlatTerm, fvar}
use Rattle.fvn_forms.specs.Good.{IsGood}
use Rattle.fvn_signature.specs.Queries.{IsCompleted}
use Rattle.fvn_flat.specs.Forms.{head_of}
use Rattle.fvn_flat.specs.Solving.{substitution}
use Rattle.fvn_cover.specs.declared.variant.Variant.{Variant}
use Rattle.fvn_rewrite_laws.specs.Laws.{SequenceLaws}
use Rattle.fvn_rewrite.specs.Usable.{Rewriting, AreUsable, equations_by}
use Rattle.fvn_rewrite_rules.specs.declared.rule.Rule.{Rule}
use Rattle.fvn_exploring.specs.Setting.{Setting}
use Rattle.fvn_exploring.specs.Children.{narrowed, IsChild}
use Rattle.fvn_exploring.specs.Liftings.{LiftsInto}
use Rattle.fvn_exploring.specs.Expansions.{IsExpandable, IsExpandCause, IsExpansionOf}
use Rattle.fvn_exploring.specs.declared.ends.ExpandEnd.{ExpandEnd}
use Rattle.fvn_exploring.specs.declared.ends.ExpandEnd.TheVariants.{Whole, Steps, Size, Basis, Unifiers}
use Rattle.fvn_exploring.specs.declared.ends.Expansion.{Expansion}
use Rattle.fvn_exploring.specs.Causes.{IsNarrowingProblem, IsOfSuccessor}
use Rattle.fvn_lifting.specs.Turns.{IsTurn}
use Rattle.fvn_lifting.specs.Lifted.{LiftsAt}
use Rattle.fvn_lifting.specs.Pairs.{IsMetInPairs, PairsLiftAt}
use Rattle.fvn_lifting.specs.Laws.{AreUsed, RenamedFormsHaveTheSameInstances, WholeExpansionsLift}
use Rattle.fvn_narrow_children.specs.Starts.{IsStartOf}
use Rattle.fvn_narrow_children.specs.Values.{HaveReducible}
use Rattle.fvn_places.proofs.PathFacts.{path_to}
use Rattle.fvn_narrow.specs.Settings.{narrowing_setting}
use Rattle.fvn_narrow.specs.inner.Turns.{Turn, turn_of, IsTurnAt, IsStepChild, EndsAs, TurnLifts, ForEach, AreFound, IsAny}
use Rattle.fvn_narrow.proofs.Backwards.{renamed_start, child_back, cause_back}

module _ (r : Rewriting) (good : IsGood r.signature) (completed : IsCompleted r.signature) (usable : AreUsable r.signature r.rules) (sequences : SequenceLaws r.signature (equations_by r))
    (unifiers : ℕ) (drawn : Problem → Substitution → Type 0) (first next : ℕ) (v start : Variant) (expandable : IsExpandable (narrowing_setting r unifiers) first v) (o : IsStartOf r.signature next v start) where
  abbrev d : Declarations
  d = r.signature

  abbrev equations : Equations
  equations = equations_by r

  abbrev g : Setting
  g = narrowing_setting r unifiers

  used : AreUsed d equations r.rules
  used = record { good = good; completed = completed; same = refl; admissible = usable.admissible; rules = usable.rules }

  -- a turn at a place is one at the end of a path
  module _ (at : FlatTerm) (rule : Rule) (t : IsTurn r.rules start.terms at rule) where
    no_variable : (x : Var) → at ≡ fvar x → ⊥
    no_variable x e = let q : None ≡ Some t.operator = sym (ap head_of e) ∙ t.heads in cc

    abbrev turn : Turn
    turn = turn_of t.listed.0 (path_to no_variable t.at_place).0 None rule

    turn_at : IsTurnAt r start at turn
    turn_at = record {
      term = t.term;
      is = slice_get_read start.terms (length start.terms) t.listed.0 t.term refl t.listed.1 (sym t.listed.2);
      whole = at;
      leads = (path_to no_variable t.at_place).2;
      part = refl;
      left = tt;
      operator = t.operator;
      heads = t.heads;
      needed = t.needed;
    }

  -- in each turn the instances lift, or they do at pairs
  abbrev LiftsFrom : List Var → FlatTerm → Rule → List Variant → Type 0
  LiftsFrom vars at rule children =
      LiftsAt g vars (narrowed start) at rule.left children
      ⊎ (IsMetInPairs d r.rules rule × PairsLiftAt g r.rules vars (narrowed start) at children)

  whole_lifts : WholeExpansionsLift → (e : Expansion) → AreFound r unifiers drawn start (ForEach (TurnLifts r unifiers start) IsAny) e → e.end ≡ Whole → LiftsInto g v (Contains e.children)
  whole_lifts law e found whole =
      law g r.rules used first v expandable (narrowed start) (renamed_start r unifiers next v start o drawn) e.children
      (λ at rule t. subst (λ vars. LiftsFrom vars at rule e.children) o.vars (found.whole whole (turn at rule t) tt at (turn_at at rule t) refl))

  expand_cause : (end : ExpandEnd) → EndsAs g drawn (IsNarrowingProblem g v) (IsOfSuccessor g drawn v) end → IsExpandCause g drawn v end
  expand_cause Whole h = tt
  expand_cause (Steps from to) h = h
  expand_cause (Size cause) h = h
  expand_cause (Basis f system) h = h
  expand_cause (Unifiers given list) h = h

  pub is_expansion : WholeExpansionsLift → (e : Expansion) → AreFound r unifiers drawn start (ForEach (TurnLifts r unifiers start) IsAny) e → IsExpansionOf g drawn v e
  is_expansion law e found = record {
    children = All-weaker (IsStepChild g drawn start) (IsChild g drawn v) (child_back r unifiers next v start o drawn) e.children found.children;
    whole = λ whole. whole_lifts law e found whole;
    cause = expand_cause e.end (cause_back r unifiers next v start o drawn e.end found.cause);
  }

  -- where a value is reducible no instance has irreducible values
  nothing_keeps : RenamedFormsHaveTheSameInstances → HaveReducible d equations start.vars start.subst → (Into : Variant → Type 0) → LiftsInto g v Into
  nothing_keeps law h Into s keeps us l =
      let x = h.variable in
      let listed : Contains v.vars x = subst (λ vars. Contains vars x) o.vars h.listed in
      let same = law d good v.vars (narrowed v) (narrowed start) expandable.flat.terms (renamed_start r unifiers next v start o drawn) s keeps.well_sorted in
      let c = same.0 in
      let after = sequences.irreducible (apply s (substitution v.subst x)) (apply c (substitution start.subst x)) (same.1.values x listed) (keeps.values x listed) in
      absurd (sequences.instances c same.1.well_sorted (substitution start.subst x) after h.reducible.0 h.reducible.1)

  pub nothing_expands : RenamedFormsHaveTheSameInstances → HaveReducible d equations start.vars start.subst → (e : Expansion) → e.children ≡ [] → e.end ≡ Whole → IsExpansionOf g drawn v e
  nothing_expands law h e none whole = record {
    children = subst (All (IsChild g drawn v)) (sym none) (All-nil (IsChild g drawn v));
    whole = λ q. nothing_keeps law h (Contains e.children);
    cause = subst (IsExpandCause g drawn v) (sym whole) tt;
  }
