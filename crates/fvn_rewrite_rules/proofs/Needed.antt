-- The rules that are needed under a head, with one rule more.
use Rattle.std.proofs.Common.{◌≡◌, ◌⊎◌, ◌+◌, ◌<◌, ℕ, List, [], ◌∷◌, ◌++◌, length, get_or, Some, refl, sym, ◌∙◌, subst, inl, inr, arith, Bool, true, false}
use Rattle.std.specs.Prelude.{All, IsTrue}
use Rattle.std.specs.List.{Contains}
use Rattle.std.proofs.lemmas.Bool.{cases_lt}
use Rattle.std.proofs.lemmas.List.{get_or_append_left, get_or_push, length-append}
use Rattle.std.proofs.lemmas.List.Elements.{All-contains, Contains-append_left, Contains-push, Contains-push_cases}
use Rattle.fvn_base.proofs.Membership.{contains_cases, contains_none}
use Rattle.fvn_terms.specs.declared.plain.OpId.{OpId}
use Rattle.fvn_terms.specs.declared.declarations.Declarations.{Declarations}
use Rattle.fvn_flat.specs.Forms.{head_of}
use Rattle.fvn_rewrite_rules.specs.declared.rule.Rule.{Rule}
use Rattle.fvn_rewrite_rules.specs.Given.{HasInstance, HaveNoInstances}
use Rattle.fvn_rewrite_rules.specs.inner.Making.{IsKindedRule}
use Rattle.fvn_rewrite_rules.specs.inner.Heads.{HasAsInstance, SomeHasInstance, ServesAs, SomeServesAs, AreApart, AreLeft, AreNeededWith, AreNeeded, IsTable}
use Rattle.fvn_rewrite_rules.proofs.General.{HasInstance-of, HasInstance-trans}
use Rattle.fvn_rewrite_rules.proofs.Collecting.{All-contained, AllPairs-append}

-- what is told as false is not told as true
pub not_told : {b : Bool} → IsTrue b → b ≡ false → ⊥
not_told t f = let q : true ≡ false = sym t ∙ f in cc

module _ (d : Declarations) where
  -- a rule that is listed has itself as an instance
  itself : (rules : List Rule) (rule : Rule) → Contains rules rule → SomeHasInstance d rules rule
  itself rules rule c = (rule, (c, HasInstance-of d rule rule.left refl))

  -- no rule serves, among none and with one more
  pub none_of_none : (rule : Rule) → SomeServesAs d [] rule false
  none_of_none rule r c = absurd (contains_none r c)

  pub none_of_more : (rule : Rule) (rules more : List Rule) (r : Rule) → more ≡ rules ++ r ∷ [] → SomeServesAs d rules rule false → (b : Bool) → b ≡ false → ServesAs d r rule b → SomeServesAs d more rule false
  none_of_more rule rules more r e none_serves b is h general c = elim (Contains-push_cases rules r general (subst (λ (l : List Rule). Contains l general) e c)) as (λ _. ServesAs d general rule false) [
    | inl i ↦ none_serves general i
    | inr q ↦ subst (λ (v : Rule). ServesAs d v rule false) q (subst (ServesAs d r rule) is h)
  ]

  -- what serves has the rule as an instance
  pub serves_one : (rule other : Rule) (b : Bool) → b ≡ true → ServesAs d rule other b → HasAsInstance d rule other
  serves_one rule other b is h = subst (ServesAs d rule other) is h

  pub serves_some : (rules : List Rule) (other : Rule) (b : Bool) → b ≡ true → SomeServesAs d rules other b → SomeHasInstance d rules other
  serves_some rules other b is h = subst (SomeServesAs d rules other) is h

  -- no rules are apart, and one more
  none_apart : AreApart d []
  none_apart = λ i j r lt within. absurd (omega (arith, within))

  one_apart : (r : Rule) → AreApart d (r ∷ [])
  one_apart r = λ i j e lt within. absurd (omega (arith, lt, within))

  apart_push : (rules : List Rule) (r : Rule) → AreApart d rules → ((x : Rule) → Contains rules x → HaveNoInstances d x r) → AreApart d (rules ++ r ∷ [])
  apart_push rules r h g = AllPairs-append (HaveNoInstances d) rules (r ∷ []) h (one_apart r) (λ x y i j. elim (contains_cases r [] y j) as (λ _. HaveNoInstances d x y) [ inl e ↦ subst (HaveNoInstances d x) e (g x i) | inr k ↦ absurd (contains_none y k) ])

  -- those before the last are apart, and apart from it
  apart_before : (rules : List Rule) (r : Rule) → AreApart d (rules ++ r ∷ []) → AreApart d rules
  apart_before rules r h i j e lt within =
      let n = length-append rules (r ∷ []) in
      let a = get_or_append_left rules (r ∷ []) e i (omega (arith, lt, within)) in
      let b = get_or_append_left rules (r ∷ []) e j within in
      rw (a, b) at (h i j e lt (omega (arith, n, within)))

  apart_last : (rules : List Rule) (r : Rule) → AreApart d (rules ++ r ∷ []) → (x : Rule) → Contains rules x → HaveNoInstances d x r
  apart_last rules r h x c =
      let n = length-append rules (r ∷ []) in
      let within : c.0 < length rules = c.1 in
      let a = get_or_append_left rules (r ∷ []) x c.0 within ∙ c.2 in
      let b = get_or_push rules r x (length rules) refl in
      rw (a, b) at (h c.0 (length rules) x within (omega (arith, n)))

  module _ (general : Rule) where
    pub none_left : AreLeft d general [] []
    none_left = record { listed = λ rule c. c; others = λ rule c. inl c; no_instances = λ rule c. absurd (contains_none rule c); apart = λ h. h }

    -- one more that is no instance, or is one
    module _ (rules left : List Rule) (old : AreLeft d general rules left) (r : Rule) where
      pub left_more : (HasAsInstance d general r → ⊥) → AreLeft d general (rules ++ r ∷ []) (left ++ r ∷ [])
      left_more none_of = record {
        listed = among;
        others = other;
        no_instances = λ rule c. elim (Contains-push_cases left r rule c) as (λ _. HasAsInstance d general rule → ⊥) [
          | inl i ↦ old.no_instances rule i
          | inr e ↦ subst (λ (v : Rule). HasAsInstance d general v → ⊥) e none_of
        ];
        apart = λ h. apart_push left r (old.apart (apart_before rules r h)) (λ x i. apart_last rules r h x (old.listed x i));
      }
        where
          among : (rule : Rule) → Contains (left ++ r ∷ []) rule → Contains (rules ++ r ∷ []) rule
          among rule c = elim (Contains-push_cases left r rule c) as (λ _. Contains (rules ++ r ∷ []) rule) [
            | inl i ↦ Contains-append_left rules (r ∷ []) rule (old.listed rule i)
            | inr e ↦ subst (Contains (rules ++ r ∷ [])) e (Contains-push rules r)
          ]

          kept : (rule : Rule) → Contains left rule ⊎ HasInstance d general rule.left → Contains (left ++ r ∷ []) rule ⊎ HasInstance d general rule.left
          kept rule (inl i) = inl (Contains-append_left left (r ∷ []) rule i)
          kept rule (inr h) = inr h

          other : (rule : Rule) → Contains (rules ++ r ∷ []) rule → Contains (left ++ r ∷ []) rule ⊎ HasInstance d general rule.left
          other rule c = elim (Contains-push_cases rules r rule c) as (λ _. Contains (left ++ r ∷ []) rule ⊎ HasInstance d general rule.left) [
            | inl i ↦ kept rule (old.others rule i)
            | inr e ↦ inl (subst (Contains (left ++ r ∷ [])) e (Contains-push left r))
          ]

      pub left_out : HasInstance d general r.left → AreLeft d general (rules ++ r ∷ []) left
      left_out h = record {
        listed = λ rule c. Contains-append_left rules (r ∷ []) rule (old.listed rule c);
        others = λ rule c. elim (Contains-push_cases rules r rule c) as (λ _. Contains left rule ⊎ HasInstance d general rule.left) [
          | inl i ↦ old.others rule i
          | inr e ↦ inr (subst (λ (v : Rule). HasInstance d general v.left) e h)
        ];
        no_instances = old.no_instances;
        apart = λ a. old.apart (apart_before rules r a);
      }

  module _ (rule : Rule) (before : List Rule) where
    -- one of them serves in place of the rule
    pub with_none : SomeHasInstance d before rule → AreNeededWith d rule before before
    with_none h = record { listed = λ r c. inl c; before_too = λ r c. itself before r c; this_too = h; apart = λ a. a }

    -- the rule stands behind those that are no instances of it
    pub with_one : SomeServesAs d before rule false → (left : List Rule) → AreLeft d rule before left → AreNeededWith d rule before (left ++ rule ∷ [])
    with_one none_serves left old = record {
      listed = λ r c. elim (Contains-push_cases left rule r c) as (λ _. Contains before r ⊎ (r ≡ rule)) [
        | inl i ↦ inl (old.listed r i)
        | inr e ↦ inr (sym e)
      ];
      before_too = λ r c. go r (old.others r c);
      this_too = itself (left ++ rule ∷ []) rule (Contains-push left rule);
      apart = λ a. apart_push left rule (old.apart a) (λ x i. record { first = λ h. old.no_instances x i (none_serves x (old.listed x i) h); second = old.no_instances x i });
    }
      where
        go : (r : Rule) → Contains left r ⊎ HasInstance d rule r.left → SomeHasInstance d (left ++ rule ∷ []) r
        go r (inl i) = itself (left ++ rule ∷ []) r (Contains-append_left left (rule ∷ []) r i)
        go r (inr h) = (rule, (Contains-push left rule, h))

  module _ (f : OpId) where
    pub none_needed : AreNeeded d f [] []
    none_needed = record { given = λ rule c. absurd (contains_none rule c); enough = λ rule c. absurd (contains_none rule c); apart = none_apart }

    module _ (rules needed : List Rule) (old : AreNeeded d f rules needed) (r : Rule) where
      -- one more that f heads
      pub needed_more : head_of r.left ≡ Some f → (after : List Rule) → AreNeededWith d r needed after → AreNeeded d f (rules ++ r ∷ []) after
      needed_more h after new = record { given = among; enough = enough_with; apart = new.apart old.apart }
        where
          among : (rule : Rule) → Contains after rule → Contains (rules ++ r ∷ []) rule × (head_of rule.left ≡ Some f)
          among rule c = elim (new.listed rule c) as (λ _. Contains (rules ++ r ∷ []) rule × (head_of rule.left ≡ Some f)) [
            | inl i ↦ let g = old.given rule i in (Contains-append_left rules (r ∷ []) rule g.0, g.1)
            | inr e ↦ subst (λ (v : Rule). Contains (rules ++ r ∷ []) v × (head_of v.left ≡ Some f)) (sym e) (Contains-push rules r, h)
          ]

          through : (rule : Rule) → SomeHasInstance d needed rule → SomeHasInstance d after rule
          through rule w =
              let v = new.before_too w.0 w.1.0 in
              (v.0, (v.1.0, HasInstance-trans d v.0 w.0 rule.left v.1.1 w.1.1))

          enough_with : (rule : Rule) → Contains (rules ++ r ∷ []) rule → head_of rule.left ≡ Some f → SomeHasInstance d after rule
          enough_with rule c g = elim (Contains-push_cases rules r rule c) as (λ _. SomeHasInstance d after rule) [
            | inl i ↦ through rule (old.enough rule i g)
            | inr e ↦ subst (SomeHasInstance d after) e new.this_too
          ]

      -- one more that f does not head
      pub needed_same : (head_of r.left ≡ Some f → ⊥) → AreNeeded d f (rules ++ r ∷ []) needed
      needed_same other = record {
        given = λ rule c. let g = old.given rule c in (Contains-append_left rules (r ∷ []) rule g.0, g.1);
        enough = λ rule c g. elim (Contains-push_cases rules r rule c) as (λ _. SomeHasInstance d needed rule) [
          | inl i ↦ old.enough rule i g
          | inr e ↦ absurd (other (subst (λ (v : Rule). head_of v.left ≡ Some f) (sym e) g))
        ];
        apart = old.apart;
      }

    -- what is needed is among the rules
    pub needed_kinded : (rules needed : List Rule) → AreNeeded d f rules needed → All (IsKindedRule d) rules → All (IsKindedRule d) needed
    needed_kinded rules needed old all = All-contained (IsKindedRule d) needed (λ rule c. All-contains (IsKindedRule d) rules rule all (old.given rule c).0)

  -- a table for the first operators
  pub record IsTableUpTo (rules : List Rule) (n : ℕ) (table : List (List Rule)) : Type 0 where
    pub all : length table ≡ n
    pub needed : (f : OpId) → f.0 < n → AreNeeded d f rules (get_or table f.0 [])

  pub no_table : (rules : List Rule) → IsTableUpTo rules 0 []
  no_table rules = record { all = refl; needed = λ f lt. absurd (omega (arith, lt)) }

  pub table_more : (rules : List Rule) (n : ℕ) (table : List (List Rule)) → IsTableUpTo rules n table → (f : OpId) → f.0 ≡ n → (needed : List Rule) → AreNeeded d f rules needed → IsTableUpTo rules (n + 1) (table ++ needed ∷ [])
  table_more rules n table old f is needed new = record {
    all = let e = length-append table (needed ∷ []) in let a = old.all in omega (arith, e, a);
    needed = λ g lt. elim (cases_lt g.0 n) as (λ _. AreNeeded d g rules (get_or (table ++ needed ∷ []) g.0 [])) [
      | inl below ↦ subst (AreNeeded d g rules) (sym (get_or_append_left table (needed ∷ []) [] g.0 (let a = old.all in omega (arith, below, a)))) (old.needed g below)
      | inr above ↦ last g (omega (arith, lt, above))
    ];
  }
    where
      last : (g : OpId) → g.0 ≡ n → AreNeeded d g rules (get_or (table ++ needed ∷ []) g.0 [])
      last g e =
          let same : f ≡ g = (λ i. record { 0 = (is ∙ sym e) i }) in
          let at : get_or (table ++ needed ∷ []) g.0 [] ≡ needed = get_or_push table needed [] g.0 (old.all ∙ sym e) in
          subst (AreNeeded d g rules) (sym at) (subst (λ o. AreNeeded d o rules needed) same new)

  -- a table for all operators
  pub whole_table : (rules : List Rule) (n : ℕ) (table : List (List Rule)) → n ≡ length d.ops → IsTableUpTo rules n table → IsTable d rules table
  whole_table rules n table e h = record { all = h.all ∙ e; needed = λ f lt. h.needed f (subst (λ k. f.0 < k) (sym e) lt) }
