-- An operator of a good signature is neutral, or it is not.
use Rattle.std.proofs.Common.{◌≡◌, ℕ, zero, suc, ◌<◌, true, List, [], ◌∷◌, length, refl, sym, ap, ◌∙◌, subst, inl, inr, arith, Option, Some, None, Contains}
use Rattle.std.proofs.lemmas.Bool.{cases_lt}
use Rattle.std.proofs.lemmas.List.{get_or_past}
use Rattle.fvn_base.specs.Decided.{Decided}
use Rattle.fvn_base.proofs.Decided.{some_or_none, decided_by, both_or, unrefuted}
use Rattle.fvn_base.proofs.Membership.{contains_here, contains_later}
use Rattle.fvn_terms.specs.declared.plain.OpId.{OpId}
use Rattle.fvn_terms.specs.declared.plain.SortId.{SortId}
use Rattle.fvn_terms.specs.declared.declarations.Rank.{Rank}
use Rattle.fvn_terms.specs.declared.declarations.Declarations.{Declarations}
use Rattle.fvn_terms.specs.Signature.{kind, declared, axioms, IsSort}
use Rattle.fvn_terms.specs.Equality.{identity}
use Rattle.fvn_forms.specs.Good.{IsGood, IsOfKind}
use Rattle.fvn_forms.specs.Ranks.{result}
use Rattle.fvn_forms.specs.SortOrder.{sort_number, same_sort, at_or_below}
use Rattle.fvn_forms.proofs.SortTests.{same_sort-true, same_sort-self, at_or_below-true, at_or_below-complete}
use Rattle.fvn_combine_complete.specs.Neutral.{Absorbs, IsNeutral}

-- the sorts with a number below this one
abbrev sorts_below : ℕ → List SortId
sorts_below zero = []
sorts_below (suc n) = sort_number n ∷ sorts_below n

below_listed : (n : ℕ) (s : SortId) → s.0 < n → Contains (sorts_below n) s
below_listed zero s l = absurd (omega (arith, l))
below_listed (suc n) s l = elim (cases_lt s.0 n) [
  | inl m ↦ contains_later (sort_number n) (sorts_below n) s (below_listed n s m)
  | inr m ↦ (let e : n ≡ s.0 = omega (arith, l, m) in subst (Contains (sorts_below (suc n))) (ap sort_number e) (contains_here (sort_number n) (sorts_below n)))
]

module _ (d : Declarations) (good : IsGood d) where
  of_kind_told : (f : OpId) (a : SortId) → Decided (IsOfKind d f a)
  of_kind_told f a = elim (some_or_none (λ (r : Rank). kind d a ≡ kind d r.result) same (declared d f).ranks) [
    | inl h ↦ inl (record { rank = h.0; listed = h.1.0; kind_is = h.1.1 })
    | inr n ↦ inr (λ h. n h.rank h.listed h.kind_is)
  ]
    where
      same : (r : Rank) → Decided (kind d a ≡ kind d r.result)
      same r = decided_by (same_sort (kind d a) (kind d r.result)) (same_sort-true (kind d a) (kind d r.result)) (λ e. subst (λ s. same_sort (kind d a) s ≡ true) e (same_sort-self (kind d a)))

  -- a sort of the kind is a sort
  of_kind_listed : (f : OpId) (a : SortId) → IsOfKind d f a → IsSort d a
  of_kind_listed f a h = elim (cases_lt a.0 (length d.kinds)) [
    | inl l ↦ l
    | inr past ↦ absurd (
        let own : kind d a ≡ a = get_or_past d.kinds a.0 a past in
        let sorted : IsSort d (kind d h.rank.result) = good.kinded.listed h.rank.result (good.kinded.ranks f h.rank h.listed).1 in
        let l : IsSort d a = subst (IsSort d) (sym h.kind_is ∙ own) sorted in
        omega (arith, past, l))
  ]

  pub absorbs_told : (f e : OpId) (a : SortId) → Decided (Absorbs d f e a)
  absorbs_told f e a =
      let q = result d f (a ∷ result d e [] ∷ []) in
      decided_by (at_or_below d q a) (at_or_below-true d q a) (λ h. at_or_below-complete d h)

  abbrev Fails : OpId → OpId → SortId → Type 0
  Fails f e a = IsOfKind d f a × (Absorbs d f e a → ⊥)

  fails_told : (f e : OpId) (a : SortId) → Decided (Fails f e a)
  fails_told f e a = both_or (of_kind_told f a) (absurdly (absorbs_told f e a))
    where
      absurdly : {P : Type 0} → Decided P → Decided (P → ⊥)
      absurdly (inl p) = inr (λ n. n p)
      absurdly (inr n) = inl n

  pub neutral_told : (f : OpId) → Decided (IsNeutral d f)
  neutral_told f = go (identity (axioms d f)) refl
    where
      go : (o : Option OpId) → identity (axioms d f) ≡ o → Decided (IsNeutral d f)
      go None is = inr (λ n. let e : None ≡ Some n.unit = sym is ∙ n.is_identity in cc)
      go (Some e) is = elim (some_or_none (Fails f e) (fails_told f e) (sorts_below (length d.kinds))) [
        | inl h ↦ inr (λ n.
            let same : Some n.unit ≡ Some e = sym n.is_identity ∙ is in
            let unit_is : n.unit ≡ e = cc in
            h.1.1.1 (subst (λ o. Absorbs d f o h.0) unit_is (n.absorbs h.0 h.1.1.0)))
        | inr none ↦ inl (record {
          unit = e;
          is_identity = is;
          absorbs = λ a h. unrefuted (absorbs_told f e a) (λ n. none a (below_listed (length d.kinds) a (of_kind_listed f a h)) (h, n));
        })
      ]
