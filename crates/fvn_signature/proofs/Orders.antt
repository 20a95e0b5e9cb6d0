-- The order of a signature with kinds, by what the declared pairs lead to.
use Rattle.std.proofs.Common.{◌≡◌, ℕ, ◌<◌, Bool, true, List, refl, sym, subst, ◌∙◌, ◌⊎◌, inl, inr}
use Rattle.std.specs.List.{All}
use Rattle.std.proofs.lemmas.List.Elements.{All-contains}
use Rattle.fvn_signature.proofs.FirstSorts.{same_tests}
use Rattle.fvn_terms.specs.declared.plain.SortId.{SortId}
use Rattle.fvn_terms.specs.declared.declarations.Declarations.{Declarations}
use Rattle.fvn_terms.specs.Signature.{kind, AtOrBelow, same, up, to_kind}
use Rattle.fvn_forms.specs.SortOrder.{reaches, at_or_below}
use Rattle.fvn_forms.specs.Good.{IsKinded}
use Rattle.fvn_forms.proofs.SortOrder.{AtOrBelow-trans, AtOrBelow-one, AtOrBelow-kind, AtOrBelow-from_same, kind_is_greatest}
use Rattle.fvn_forms.proofs.SortTests.{reaches-self, reaches-trans, reaches-one, reaches-sound, at_or_below-true, at_or_below-complete}

-- pairs of the first n sorts lead from no other sort, and to none
pub reaches-range : (n : ℕ) (ps : List (SortId × SortId)) → All (λ p. (p.0.0 < n) × (p.1.0 < n)) ps → (s q : SortId) → reaches ps s q ≡ true → (s ≡ q) ⊎ ((s.0 < n) × (q.0 < n))
reaches-range n ps h = reaches-sound (λ s q. (s ≡ q) ⊎ ((s.0 < n) × (q.0 < n))) (λ s. inl refl) trans ps (λ s q i. inr (All-contains (λ p. (p.0.0 < n) × (p.1.0 < n)) ps (s, q) h i)) where
  trans : (s q r : SortId) → (s ≡ q) ⊎ ((s.0 < n) × (q.0 < n)) → (q ≡ r) ⊎ ((q.0 < n) × (r.0 < n)) → (s ≡ r) ⊎ ((s.0 < n) × (r.0 < n))
  trans s q r (inl e) (inl f) = inl (e ∙ f)
  trans s q r (inl e) (inr k) = inr (subst (λ (z : SortId). z.0 < n) (sym e) k.0, k.1)
  trans s q r (inr h) (inl f) = inr (h.0, subst (λ (z : SortId). z.0 < n) f h.1)
  trans s q r (inr h) (inr k) = inr (h.0, k.1)

module _ (d : Declarations) (kinded : IsKinded d) where
  pub AtOrBelow-cases : {s q : SortId} → AtOrBelow d s q → (reaches d.below s q ≡ true) ⊎ (kind d s ≡ q)
  AtOrBelow-cases (same {s}) = inl (reaches-self d.below s)
  AtOrBelow-cases (up {s} {q = t} {r} c h) = elim (AtOrBelow-cases h) [
    | inl e ↦ inl (reaches-trans d.below s t r (reaches-one d.below s t c) e)
    | inr e ↦ inr (kinded.ordered s t c ∙ e)
  ]
  AtOrBelow-cases (to_kind {s} {r} h) = inr (kind_is_greatest d kinded s r h)

  pub AtOrBelow-reached : (s q : SortId) → reaches d.below s q ≡ true → AtOrBelow d s q
  AtOrBelow-reached = reaches-sound (AtOrBelow d) (λ s. same) (λ s q r. AtOrBelow-trans d) d.below (λ s q. AtOrBelow-one d)

  pub AtOrBelow-to_kind : (s q : SortId) → kind d s ≡ q → AtOrBelow d s q
  AtOrBelow-to_kind s q e = subst (AtOrBelow d s) e (AtOrBelow-kind d s)

  -- the test of the order, by parts
  pub at_or_below-same : (low high : SortId) → low ≡ high → true ≡ at_or_below d low high
  at_or_below-same low high e = sym (at_or_below-complete d (AtOrBelow-from_same d e))

  pub at_or_below-kind : (low high : SortId) → kind d low ≡ high → true ≡ at_or_below d low high
  at_or_below-kind low high e = sym (at_or_below-complete d (AtOrBelow-to_kind low high e))

  pub at_or_below-led : (low high : SortId) (b : Bool) → (low ≡ high → ⊥) → (kind d low ≡ high → ⊥) → (b ≡ true → reaches d.below low high ≡ true) → (reaches d.below low high ≡ true → (low ≡ high) ⊎ (b ≡ true)) → b ≡ at_or_below d low high
  at_or_below-led low high b other_sort other_kind sound complete = same_tests b (at_or_below d low high) (λ e. at_or_below-complete d (AtOrBelow-reached low high (sound e))) back where
    led : (low ≡ high) ⊎ (b ≡ true) → b ≡ true
    led (inl e) = absurd (other_sort e)
    led (inr e) = e

    back : at_or_below d low high ≡ true → b ≡ true
    back h = elim (AtOrBelow-cases (at_or_below-true d low high h)) [ inl r ↦ led (complete r) | inr k ↦ absurd (other_kind k) ]
