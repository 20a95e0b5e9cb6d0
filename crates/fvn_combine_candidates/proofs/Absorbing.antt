-- Operators whose identity leaves sorts alone, by the sorts of their kind.
use Rattle.std.proofs.Common.{◌≡◌, ◌⊎◌, ℕ, ◌+◌, ◌<◌, [], length, sym, ap, ◌∙◌, subst, inl, inr, arith, Some, Contains}
use Rattle.std.specs.Prelude.{◌↔◌}
use Rattle.std.proofs.lemmas.Bool.{cases_lt}
use Rattle.std.proofs.lemmas.List.{get_or_past}
use Rattle.fvn_base.proofs.Membership.{contains_none}
use Rattle.fvn_terms.specs.declared.plain.OpId.{OpId}
use Rattle.fvn_terms.specs.declared.plain.SortId.{SortId}
use Rattle.fvn_terms.specs.declared.declarations.Rank.{Rank}
use Rattle.fvn_terms.specs.declared.declarations.Declarations.{Declarations}
use Rattle.fvn_terms.specs.Signature.{kind, declared, axioms}
use Rattle.fvn_terms.specs.Equality.{identity}
use Rattle.fvn_forms.specs.Good.{IsGood, IsOfKind}
use Rattle.fvn_forms.specs.SortOrder.{sort_number}
use Rattle.fvn_signature.specs.Queries.{IsCompleted}
use Rattle.fvn_combine_complete.specs.Neutral.{Absorbs, IsNeutral}

module _ (d : Declarations) where
  -- an operator without ranks gives no kind
  pub no_ranks : (f : OpId) → (declared d f).ranks ≡ [] → (a : SortId) → IsOfKind d f a → ⊥
  no_ranks f e a h = contains_none h.rank (subst (λ rs. Contains rs h.rank) e h.listed)

  -- any rank tells the kind
  pub of_kind_iff : IsGood d → (f : OpId) (r : Rank) → Contains (declared d f).ranks r → (a : SortId) → IsOfKind d f a ↔ (kind d a ≡ kind d r.result)
  of_kind_iff good f r listed a = (λ h. h.kind_is ∙ (good.fits.agree f h.rank r h.listed listed).1, λ e. record { rank = r; listed = listed; kind_is = e })

  -- a sort of a kind is declared, or the kind itself
  pub declared_or_kind : IsGood d → IsCompleted d → (of a : SortId) → kind d a ≡ of → (a.0 < d.sorts) ⊎ (a ≡ of)
  declared_or_kind good completed of a e = elim (cases_lt a.0 d.sorts) [
    | inl l ↦ inl l
    | inr past ↦ elim (cases_lt a.0 (length d.kinds)) [
      | inl l ↦
          let of_sort = completed.sort_of_kind a (record { after_sorts = past; listed = l }) in
          let own : kind d a ≡ a = ap (kind d) (sym of_sort.1.1) ∙ good.kinded.own of_sort.0 ∙ of_sort.1.1 in
          inr (sym own ∙ e)
      | inr out ↦ inr (sym (get_or_past d.kinds a.0 a out) ∙ e)
    ]
  ]

  -- one sort more
  pub more_pass : (f e : OpId) (of : SortId) (n : ℕ) (s : SortId) → s.0 ≡ n → ((a : SortId) → a.0 < n → kind d a ≡ of → Absorbs d f e a) → (kind d s ≡ of → Absorbs d f e s) → (a : SortId) → a.0 < n + 1 → kind d a ≡ of → Absorbs d f e a
  more_pass f e of n s at before here a l k = elim (cases_lt a.0 n) [
    | inl m ↦ before a m k
    | inr m ↦ (let same : s.0 ≡ a.0 = omega (arith, at, l, m) in let is : s ≡ a = ap sort_number same in subst (λ q. kind d q ≡ of → Absorbs d f e q) is here k)
  ]

  -- all sorts of the kind
  pub all_absorb : IsGood d → IsCompleted d → (f e : OpId) (of : SortId) → (kind d of ≡ of → Absorbs d f e of) → ((a : SortId) → a.0 < d.sorts → kind d a ≡ of → Absorbs d f e a) → (a : SortId) → kind d a ≡ of → Absorbs d f e a
  all_absorb good completed f e of here below a k = elim (declared_or_kind good completed of a k) [
    | inl l ↦ below a l k
    | inr is ↦ subst (Absorbs d f e) (sym is) (here (ap (kind d) (sym is) ∙ k))
  ]

  -- by the sorts of the kind an operator is neutral or not
  pub neutral_by : (f e : OpId) → identity (axioms d f) ≡ Some e → (of : SortId) → ((a : SortId) → IsOfKind d f a ↔ (kind d a ≡ of)) → ((a : SortId) → kind d a ≡ of → Absorbs d f e a) ↔ IsNeutral d f
  neutral_by f e is of iff = (
    λ all. record { unit = e; is_identity = is; absorbs = λ a h. all a ((iff a).0 h) },
    λ n a k.
        let same : Some n.unit ≡ Some e = sym n.is_identity ∙ is in
        let unit_is : n.unit ≡ e = cc in
        subst (λ o. Absorbs d f o a) unit_is (n.absorbs a ((iff a).1 k)),
  )

  pub neutral_without : (f e : OpId) → identity (axioms d f) ≡ Some e → ((a : SortId) → IsOfKind d f a → ⊥) → IsNeutral d f
  neutral_without f e is none = record { unit = e; is_identity = is; absorbs = λ a h. absurd (none a h) }
