-- All rules at a whole form, and those that are left where it is taken by two summands.
use Rattle.std.proofs.Common.{◌≡◌, ◌++◌, ℕ, true, false, List, [], length, None, Some, refl, sym, ap, ◌∙◌, subst, inl, inr}
use Rattle.std.specs.Prelude.{All, Contains}
use Rattle.std.proofs.lemmas.List.Elements.{All-weaker, All-contains_itself}
use Rattle.fvn_terms.specs.declared.plain.OpId.{OpId}
use Rattle.fvn_terms.specs.Unifiers.{Problem}
use Rattle.fvn_terms.specs.Substitution.{Substitution}
use Rattle.fvn_forms.specs.Flat.{FlatTerm}
use Rattle.fvn_flat.specs.FlatPlaces.{Beside, IsPartOf}
use Rattle.fvn_flat.specs.Forms.{head_of, args_of}
use Rattle.fvn_cover.specs.declared.variant.Variant.{Variant}
use Rattle.fvn_rewrite.specs.Usable.{Rewriting}
use Rattle.fvn_rewrite_rules.specs.declared.rule.Rule.{Rule}
use Rattle.fvn_rewrite_rules.specs.Given.{RuleLists, headed}
use Rattle.fvn_lifting.specs.Pairs.{IsPairOf}
use Rattle.fvn_narrow.specs.inner.Turns.{turn_of, SomeLeft, IsTurnAt, IsFormAt, IsTryOf, IsTryBefore, TryLifts, TryLiftsUnless, TryLiftsByParts, ForEach}
use Rattle.fvn_narrow.proofs.Joined.{AreSoFar, none_so_far, try_grows}
use Rattle.fvn_narrow.proofs.Two.{pairs_lift}

-- what a rewriter's rules have under an operator
pub rules_are : (r : Rewriting) (lists : RuleLists) (f : OpId) (rules : List Rule) → rules ≡ headed lists f → lists ≡ r.rules → rules ≡ headed r.rules f
rules_are r lists f rules e same = e ∙ ap (λ (l : RuleLists). headed l f) same

-- the turns at a whole form
pub whole_turns : (r : Rewriting) (v : Variant) (member : ℕ) (path : List ℕ) (f : OpId) (at : FlatTerm) → IsFormAt r v member path f at → (b : Beside) → b ≡ None → All (λ (rule : Rule). IsTurnAt r v at (turn_of member path b rule)) (headed r.rules f)
whole_turns r v member path f at form b alone = All-weaker (Contains (headed r.rules f)) (λ (rule : Rule). IsTurnAt r v at (turn_of member path b rule)) turn (headed r.rules f) (All-contains_itself (headed r.rules f)) where
  turn : (rule : Rule) → Contains (headed r.rules f) rule → IsTurnAt r v at (turn_of member path b rule)
  turn rule listed = record {
    term = form.term;
    is = form.is;
    whole = at;
    leads = form.leads;
    part = subst (IsPartOf at at) (sym alone) refl;
    left = subst SomeLeft (sym alone) tt;
    operator = f;
    heads = form.heads;
    needed = listed;
  }

one_operator : (f g : OpId) → Some f ≡ Some g → f ≡ g
one_operator f g e = cc

module _ (r : Rewriting) (unifiers : ℕ) (v : Variant) (at : FlatTerm) where
  -- where no rule was passed over
  pub unless_parts : (needed rules : List Rule) → rules ≡ needed → (children : List Variant) → ForEach (TryLiftsUnless r unifiers v false) (IsTryOf at rules) children → ForEach (TryLiftsByParts r unifiers v) (IsTryOf at needed) children
  unless_parts needed rules same children h try c = go (h try (c.0, subst (λ l. Contains l try.rule) (sym same) c.1)) where
    go : TryLiftsUnless r unifiers v false try children → TryLiftsByParts r unifiers v try children
    go (inl k) = inl k
    go (inr m) = let q : false ≡ true = m.0 in cc

  -- where those that are met in pairs were, behind all pairs
  pub both_parts : (f : OpId) → head_of at ≡ Some f → (rules : List Rule) → rules ≡ headed r.rules f → (before more : List Variant) →
      ForEach (TryLifts r unifiers v) (IsTryBefore f (args_of at) (headed r.rules f) (length (args_of at))) before → ForEach (TryLiftsUnless r unifiers v true) (IsTryOf at rules) more →
      ForEach (TryLiftsByParts r unifiers v) (IsTryOf at (headed r.rules f)) (before ++ more)
  both_parts f heads rules same before more pairs h try c = go (h try (c.0, subst (λ l. Contains l try.rule) (sym same) c.1)) where
    go : TryLiftsUnless r unifiers v true try more → TryLiftsByParts r unifiers v try (before ++ more)
    go (inl k) = inl ((try_grows r unifiers v).right before more try k)
    go (inr m) = inr (
      m.1,
      λ g g_heads pair p rule listed.
          let is_f : g ≡ f = one_operator g f (sym g_heads ∙ ap head_of c.0 ∙ heads) in
          (try_grows r unifiers v).left before more record { at = pair; rule = rule } (pairs_lift r unifiers v f at before pairs pair (subst (λ w. IsPairOf f w pair) c.0 (subst (λ o. IsPairOf o try.at pair) is_f p)) rule (subst (λ o. Contains (headed r.rules o) rule) is_f listed)),
    )

-- before the first
pub nothing_before : (r : Rewriting) (unifiers : ℕ) (drawn : Problem → Substitution → Type 0) (v : Variant) (l : List Variant) → l ≡ [] → AreSoFar r unifiers drawn v (λ (m : List Variant). Unit {0}) l
nothing_before r unifiers drawn v l e = subst (AreSoFar r unifiers drawn v (λ (m : List Variant). Unit {0})) (sym e) (none_so_far r unifiers drawn v (λ (m : List Variant). Unit {0}) tt)
