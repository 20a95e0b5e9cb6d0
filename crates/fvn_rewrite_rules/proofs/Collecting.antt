-- The rules of one equation after another.
use Rattle.std.proofs.Common.{◌≡◌, ◌+◌, ◌<◌, ◌≤◌, ℕ, suc, List, [], ◌∷◌, ◌++◌, get_or, Some, sym, ap, ◌∙◌, subst, inl, inr, arith}
use Rattle.std.specs.Prelude.{AllPairs, All, slice_get}
use Rattle.std.specs.List.{Contains}
use Rattle.std.proofs.lemmas.Bool.{cases_lt}
use Rattle.std.proofs.lemmas.List.Elements.{All-append, Contains-append_left, Contains-append_right, Contains-append_cases, Contains-get_or}
use Rattle.std.proofs.lemmas.List.Kept.{AllPairs-cons}
use Rattle.fvn_base.proofs.Membership.{contains_here, contains_later, contains_none}
use Rattle.fvn_terms.specs.declared.declarations.Declarations.{Declarations}
use Rattle.fvn_forms.specs.Flat.{FlatTerm}
use Rattle.fvn_flat.specs.Rules.{IsRuleFrom}
use Rattle.fvn_theory.specs.declared.equation.Equation.{Equation}
use Rattle.fvn_theory.specs.Equations.{sides_of}
use Rattle.fvn_rewrite_rules.specs.declared.rule.Rule.{Rule}
use Rattle.fvn_rewrite_rules.specs.Given.{IsNumberedRule}
use Rattle.fvn_rewrite_rules.specs.inner.Making.{StandsFor, AreRulesFrom}
use Rattle.fvn_rewrite_rules.specs.inner.Collecting.{AreRulesUpTo}

-- what holds of elements of the list holds of all
pub All-contained : {X : Type 0} (P : X → Type 0) (xs : List X) → ((x : X) → Contains xs x → P x) → All P xs
All-contained P xs h k d lt = h (get_or xs k d) (Contains-get_or xs k d lt)

module _ {X : Type 0} (R : X → X → Type 0) where
  pub AllPairs-append : (xs ys : List X) → AllPairs R xs → AllPairs R ys → ((x y : X) → Contains xs x → Contains ys y → R x y) → AllPairs R (xs ++ ys)
  AllPairs-append [] ys h g c = g
  AllPairs-append (x ∷ xs) ys h g c =
      AllPairs-cons R x (xs ++ ys)
      (All-append (R x) xs ys (λ k e lt. h 0 (suc k) e (omega arith) (omega arith)) (All-contained (R x) ys (λ y i. c x y (contains_here x xs) i)))
      (AllPairs-append xs ys (λ i j e lt within. h (suc i) (suc j) e (omega arith) (omega arith)) g (λ a b i j. c a b (contains_later x xs a i) j))

module _ (d : Declarations) (equations : List Equation) where
  pub none_yet : AreRulesUpTo d equations 0 []
  none_yet = record {
    sound = λ rule c. absurd (contains_none rule c);
    numbers = λ rule c. absurd (contains_none rule c);
    complete = λ before e l r lt. absurd (omega (arith, lt));
    ordered = λ i j e lt within. absurd (omega (arith, within));
    old = λ rule c. absurd (contains_none rule c);
  }

  module _ (i : ℕ) (e : Equation) (is : slice_get equations i ≡ Some e) (all more : List Rule) (old : AreRulesUpTo d equations i all) (new : AreRulesFrom d (i + 1) (sides_of e) more) where
    one_or_other : {P : Type 0} (rule : Rule) → Contains (all ++ more) rule → (Contains all rule → P) → (Contains more rule → P) → P
    one_or_other {P} rule c f g = elim (Contains-append_cases all more rule c) as (λ _. P) [ inl a ↦ f a | inr b ↦ g b ]

    numbered : (rule : Rule) → Contains more rule → IsNumberedRule d equations rule
    numbered rule c = let s = new.sound rule c in record { before = i; number = s.0; equation = e; is = is; made = s.1 }

    same_equation : (other : Equation) (before : ℕ) → before ≡ i → slice_get equations before ≡ Some other → e ≡ other
    same_equation other before p q = let w : Some e ≡ Some other = sym is ∙ ap (slice_get equations) (sym p) ∙ q in cc

    complete_with : (before : ℕ) (other : Equation) (l r : FlatTerm) → before < i + 1 → slice_get equations before ≡ Some other → IsRuleFrom d (sides_of other) l r →
        (rule : Rule) × (Contains (all ++ more) rule × ((rule.equation ≡ before + 1) × StandsFor d l r rule))
    complete_with before other l r lt q made = elim (cases_lt before i) as (λ _. (rule : Rule) × (Contains (all ++ more) rule × ((rule.equation ≡ before + 1) × StandsFor d l r rule))) [
      | inl below ↦ let w = old.complete before other l r below q made in (w.0, (Contains-append_left all more w.0 w.1.0, w.1.1))
      | inr above ↦
          let p : before ≡ i = omega (arith, lt, above) in
          let w = new.complete l r (subst (λ o. IsRuleFrom d (sides_of o) l r) (sym (same_equation other before p q)) made) in
          (w.0, (Contains-append_right all more w.0 w.1.0, ((new.sound w.0 w.1.0).0 ∙ ap (λ n. n + 1) (sym p), w.1.1)))
    ]

    -- with the rules of one equation more
    pub one_more : AreRulesUpTo d equations (i + 1) (all ++ more)
    one_more = record {
      sound = λ rule c. one_or_other rule c (old.sound rule) (numbered rule);
      numbers = λ rule c. one_or_other rule c (λ a. let n = old.numbers rule a in omega (arith, n)) (λ b. let n = (new.sound rule b).0 in omega (arith, n));
      complete = complete_with;
      ordered = AllPairs-append (λ (a b : Rule). a.equation ≤ b.equation) all more old.ordered
          (λ j k o lt within.
          let a = (new.sound (get_or more j o) (Contains-get_or more j o (omega (arith, lt, within)))).0 in
          let b = (new.sound (get_or more k o) (Contains-get_or more k o within)).0 in
          omega (arith, a, b))
          (λ x y a b. let n = old.numbers x a in let m = (new.sound y b).0 in omega (arith, n, m));
      old = λ rule c. one_or_other rule c (old.old rule) (new.old rule);
    }
