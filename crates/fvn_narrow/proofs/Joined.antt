-- What was found in some turns and what was found in others is what was found in all of them.
use Rattle.std.proofs.Common.{◌≡◌, ◌<◌, ◌+◌, ℕ, zero, suc, List, [], ◌∷◌, ◌++◌, take, length, get_or, refl, sym, ap, ◌∙◌, subst, inl, inr, arith}
use Rattle.std.specs.Prelude.{◌⊎◌, ◌↔◌, Bool, true, false, IsTrue, All, Any, Contains}
use Rattle.std.proofs.lemmas.List.{take_more}
use Rattle.std.proofs.lemmas.List.Elements.{All-nil, All-append, Contains-append_left, Contains-append_right, Contains-append_cases}
use Rattle.fvn_base.proofs.Membership.{contains_none, contains_cases}
use Rattle.fvn_terms.specs.Substitution.{Substitution}
use Rattle.fvn_terms.specs.Unifiers.{Problem}
use Rattle.fvn_rewrite_rules.specs.declared.rule.Rule.{Rule}
use Rattle.fvn_rewrite_rules.specs.Given.{RuleLists, headed}
use Rattle.fvn_rewrite.specs.Usable.{Rewriting}
use Rattle.fvn_forms.specs.Flat.{FlatTerm}
use Rattle.fvn_cover.specs.declared.variant.Variant.{Variant}
use Rattle.fvn_exploring.specs.Setting.{Setting}
use Rattle.fvn_exploring.specs.Causes.{IsRuleProblem}
use Rattle.fvn_exploring.specs.declared.ends.ExpandEnd.{ExpandEnd}
use Rattle.fvn_exploring.specs.declared.ends.ExpandEnd.TheVariants.{Whole}
use Rattle.fvn_exploring.specs.declared.ends.Expansion.{Expansion}
use Rattle.fvn_narrow.specs.Settings.{narrowing_setting}
use Rattle.fvn_narrow.specs.inner.Joining.{AreJoined}
use Rattle.fvn_narrow.specs.inner.Turns.{Try, try_of, IsStepChild, IsOfStep, EndsAs, TryLifts, TryLiftsAmong, TryLiftsByParts, ForEach, AreFound, IsTryOf}
use Rattle.fvn_narrow.specs.inner.Placing.{IsTryIn}
use Rattle.fvn_narrow.specs.declared.placing.Place.{Place}

-- some of a list is some of a longer one
any_left : {A : Type 0} {P : A → Type 0} (xs ys : List A) → Any P xs → Any P (xs ++ ys)
any_left xs ys h = let c = Contains-append_left xs ys h.1 (h.0, h.2, h.3) in (c.0, h.1, c.1, c.2, h.4)

any_right : {A : Type 0} {P : A → Type 0} (xs ys : List A) → Any P ys → Any P (xs ++ ys)
any_right xs ys h = let c = Contains-append_right xs ys h.1 (h.0, h.2, h.3) in (c.0, h.1, c.1, c.2, h.4)

module _ (r : Rewriting) (unifiers : ℕ) (drawn : Problem → Substitution → Type 0) (v : Variant) where
  abbrev g : Setting
  g = narrowing_setting r unifiers

  -- what was found so far, where nothing stopped
  pub record AreSoFar (Holds : List Variant → Type 0) (children : List Variant) : Type 0 where
    pub children_are : All (IsStepChild g drawn v) children
    pub holds : Holds children

  pub none_so_far : (Holds : List Variant → Type 0) → Holds [] → AreSoFar Holds []
  none_so_far Holds h = record { children_are = All-nil (IsStepChild g drawn v); holds = h }

  -- where nothing is found
  pub nothing_found : (Holds : List Variant → Type 0) (e : Expansion) → e.children ≡ [] → e.end ≡ Whole → Holds e.children → AreFound r unifiers drawn v Holds e
  nothing_found Holds e none whole h = record {
    children = subst (All (IsStepChild g drawn v)) (sym none) (All-nil (IsStepChild g drawn v));
    whole = λ q. h;
    cause = subst (EndsAs g drawn (IsRuleProblem g v.terms) (IsOfStep g drawn v)) (sym whole) tt;
  }

  -- where nothing stopped
  pub all_found : (Before Holds : List Variant → Type 0) (children : List Variant) → (Before children → Holds children) → AreSoFar Before children → AreFound r unifiers drawn v Holds record { children = children; end = Whole }
  all_found Before Holds children f so_far = record { children = so_far.children_are; whole = λ e. f so_far.holds; cause = tt }

  -- what was found so far also meets what follows from it
  pub so_far_so : (Before Holds : List Variant → Type 0) (children : List Variant) → (Before children → Holds children) → AreSoFar Before children → AreSoFar Holds children
  so_far_so Before Holds children f so_far = record { children_are = so_far.children_are; holds = f so_far.holds }

  -- what is found also meets what follows from it
  pub found_so : (Before Holds : List Variant → Type 0) (e : Expansion) → (Before e.children → Holds e.children) → AreFound r unifiers drawn v Before e → AreFound r unifiers drawn v Holds e
  found_so Before Holds e f found = record { children = found.children; whole = λ q. f (found.whole q); cause = found.cause }

  module _ (Before Now : List Variant → Type 0) (before : List Variant) (next : Expansion) (all : List Variant) (end : ExpandEnd) (so_far : AreSoFar Before before) (found : AreFound r unifiers drawn v Now next) (j : AreJoined before next all end) where
    all_children : All (IsStepChild g drawn v) all
    all_children = subst (All (IsStepChild g drawn v)) (sym j.children) (All-append (IsStepChild g drawn v) before next.children so_far.children_are found.children)

    module _ (Holds : List Variant → Type 0) (both : Before before → Now next.children → Holds (before ++ next.children)) where
      holds_all : end ≡ Whole → Holds all
      holds_all whole = subst Holds (sym j.children) (both so_far.holds (found.whole (sym j.end_is ∙ whole)))

      -- where the last ones did not stop
      pub joined : end ≡ Whole → AreSoFar Holds all
      joined whole = record { children_are = all_children; holds = holds_all whole }

      -- whether they did or not
      pub both_found : AreFound r unifiers drawn v Holds record { children = all; end = end }
      both_found = record {
        children = all_children;
        whole = holds_all;
        cause = subst (EndsAs g drawn (IsRuleProblem g v.terms) (IsOfStep g drawn v)) (sym j.end_is) found.cause;
      }

    -- where they stopped
    pub stopped : (Holds : List Variant → Type 0) → (end ≡ Whole → ⊥) → AreFound r unifiers drawn v Holds record { children = all; end = end }
    stopped Holds not_whole = record {
      children = all_children;
      whole = λ e. absurd (not_whole e);
      cause = subst (EndsAs g drawn (IsRuleProblem g v.terms) (IsOfStep g drawn v)) (sym j.end_is) found.cause;
    }

-- what holds where children come before or behind others
pub record Grows {T : Type 0} (Holds : T → List Variant → Type 0) : Type 0 where
  pub left : (before more : List Variant) (x : T) → Holds x before → Holds x (before ++ more)
  pub right : (before more : List Variant) (x : T) → Holds x more → Holds x (before ++ more)

-- for each of those that are covered by one of two
pub for_both : {T : Type 0} (Holds : T → List Variant → Type 0) → Grows Holds → (Before Now Both : T → Type 0) → ((x : T) → Both x → Before x ⊎ Now x) → (before more : List Variant) →
    ForEach Holds Before before → ForEach Holds Now more → ForEach Holds Both (before ++ more)
for_both Holds grows Before Now Both either before more h k x c = elim (either x c) [ inl b ↦ grows.left before more x (h x b) | inr n ↦ grows.right before more x (k x n) ]

-- what holds for one
pub for_one : {T : Type 0} (Holds : T → List Variant → Type 0) (x : T) (children : List Variant) → Holds x children → ForEach Holds (λ (y : T). y ≡ x) children
for_one Holds x children h y e = subst (λ z. Holds z children) (sym e) h

-- what was found for some and what is found for others
pub more_found : (r : Rewriting) (unifiers : ℕ) (drawn : Problem → Substitution → Type 0) (v : Variant) {T : Type 0} (Holds : T → List Variant → Type 0) → Grows Holds → (Before Now Both : T → Type 0) → ((x : T) → Both x → Before x ⊎ Now x) →
    (before : List Variant) (next : Expansion) (all : List Variant) (end : ExpandEnd) → AreSoFar r unifiers drawn v (ForEach Holds Before) before → AreFound r unifiers drawn v (ForEach Holds Now) next → AreJoined before next all end → end ≡ Whole →
    AreSoFar r unifiers drawn v (ForEach Holds Both) all
more_found r unifiers drawn v Holds grows Before Now Both either before next all end so_far found j whole =
    joined r unifiers drawn v (ForEach Holds Before) (ForEach Holds Now) before next all end so_far found j (ForEach Holds Both) (for_both Holds grows Before Now Both either before next.children) whole

module _ (r : Rewriting) (unifiers : ℕ) (v : Variant) where
  pub try_grows : Grows (TryLifts r unifiers v)
  try_grows = record {
    left = λ before more try h s c keeps meet. any_left before more (h s c keeps meet);
    right = λ before more try h s c keeps meet. any_right before more (h s c keeps meet);
  }

  pub among_grows : (passes : Bool) (rules : List Rule) → Grows (TryLiftsAmong r unifiers v passes rules)
  among_grows passes rules = record {
    left = λ before more try h. elim h [ inl k ↦ inl (try_grows.left before more try k) | inr m ↦ inr m ];
    right = λ before more try h. elim h [ inl k ↦ inl (try_grows.right before more try k) | inr m ↦ inr m ];
  }

  pub parts_grow : Grows (TryLiftsByParts r unifiers v)
  parts_grow = record {
    left = λ before more try h. elim h [
      | inl k ↦ inl (try_grows.left before more try k)
      | inr m ↦ inr (m.0, λ f heads pair i rule needed s c keeps meet. any_left before more (m.1 f heads pair i rule needed s c keeps meet))
    ];
    right = λ before more try h. elim h [
      | inl k ↦ inl (try_grows.right before more try k)
      | inr m ↦ inr (m.0, λ f heads pair i rule needed s c keeps meet. any_right before more (m.1 f heads pair i rule needed s c keeps meet))
    ];
  }

-- the last of the first ones, or an earlier one
pub last_or_earlier : {A : Type 0} (xs : List A) (i : ℕ) (x y : A) → i < length xs → x ≡ get_or xs i x → Contains (take (i + 1) xs) y → Contains (take i xs) y ⊎ (x ≡ y)
last_or_earlier xs i x y within is c = go (Contains-append_cases (take i xs) (x ∷ []) y (subst (λ l. Contains l y) (take_more xs i x within ∙ ap (λ z. take i xs ++ z ∷ []) (sym is)) c))
  where
    go : Contains (take i xs) y ⊎ Contains (x ∷ []) y → Contains (take i xs) y ⊎ (x ≡ y)
    go (inl h) = inl h
    go (inr h) = inr (only h)
      where
        only : Contains (x ∷ []) y → x ≡ y
        only h = elim (contains_cases x [] y h) [ inl e ↦ e | inr k ↦ absurd (contains_none y k) ]

-- one rule more
pub rule_more : (at : FlatTerm) (rules : List Rule) (i : ℕ) (rule : Rule) → i < length rules → rule ≡ get_or rules i rule → (try : Try) → IsTryOf at (take (i + 1) rules) try → IsTryOf at (take i rules) try ⊎ (try ≡ try_of at rule)
rule_more at rules i rule within is try c = elim (last_or_earlier rules i rule try.rule within is c.1) [
  | inl h ↦ inl (c.0, h)
  | inr e ↦ inr (λ k. record { at = c.0 k; rule = sym e k })
]

-- one place more
pub place_more : (rules : RuleLists) (places : List Place) (i : ℕ) (place : Place) → i < length places → place ≡ get_or places i place → (try : Try) → IsTryIn rules (take (i + 1) places) try →
    IsTryIn rules (take i places) try ⊎ IsTryOf place.at.now (headed rules place.head) try
place_more rules places i place within is try c = elim (last_or_earlier places i place c.0 within is c.1) [
  | inl h ↦ inl (c.0, h, c.2)
  | inr e ↦ inr (subst (λ p. IsTryOf p.at.now (headed rules p.head) try) (sym e) c.2)
]

pub less_or_equal : (m n : ℕ) → m < n + 1 → (m < n) ⊎ (m ≡ n)
less_or_equal zero zero h = inr refl
less_or_equal zero (suc n) h = inl (omega arith)
less_or_equal (suc m) zero h = absurd (omega arith)
less_or_equal (suc m) (suc n) h = elim (less_or_equal m n (omega (arith, h))) [ inl l ↦ inl (omega (arith, l)) | inr e ↦ inr (ap suc e) ]

-- what the test for a whole end denies
pub not_whole : (b : Bool) (end : ExpandEnd) → IsTrue b ↔ (end ≡ Whole) → b ≡ false → end ≡ Whole → ⊥
not_whole b end h e w = let z : true ≡ false = sym (h.1 w) ∙ e in cc

pub none_below : (n : ℕ) → n < 0 → ⊥
none_below n h = absurd (omega (arith, h))
