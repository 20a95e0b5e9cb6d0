-- A list of variants with one more, without those that it covers.
use Rattle.std.proofs.Common.{◌≤◌, ◌+◌, ◌⊎◌, inl, inr, List, [], ◌∷◌, ◌++◌, length, sym, ap, ◌∙◌, subst, arith}
use Rattle.std.specs.Prelude.{All, Contains}
use Rattle.std.proofs.lemmas.List.{length-append}
use Rattle.std.proofs.lemmas.List.Elements.{All-push, Contains-append_left}
use Rattle.std.proofs.lemmas.List.Quantifiers.{Any-push, all_pairs_push}
use Rattle.fvn_terms.specs.declared.declarations.Declarations.{Declarations}
use Rattle.fvn_terms.specs.CompleteSets.{IsApart}
use Rattle.fvn_cover.specs.declared.variant.Variant.{Variant}
use Rattle.fvn_cover.specs.Covering.{CoversVariant, AreAlike}
use Rattle.fvn_cover.specs.Pruning.{IsCoveredBySome}
use Rattle.fvn_cover.specs.Laws.{CoveringIsAPreorder}
use Rattle.fvn_cover.specs.Adding.{IsAdded}
use Rattle.fvn_cover.proofs.Leftovers.{all_at, any_none, any_of, any_contains, all_left, pairs_left, left_never, left_length, went_or_left}

module _ (d : Declarations) where
  -- what holds of all and of the new one
  pub added_all : (P : Variant → Type 0) (kept : List Variant) (v : Variant) (after : List Variant) → IsAdded d kept v after → All P kept → P v → All P after
  added_all P kept v after (inl h) all p = subst (All P) (sym h.1) all
  added_all P kept v after (inr h) all p = subst (All P) (sym h.1.2) (All-push P h.1.0 v (all_left (CoversVariant d v) P kept h.1.0 h.1.1 all) p)

  -- one more at most
  pub added_length : (kept : List Variant) (v : Variant) (after : List Variant) → IsAdded d kept v after → length after ≤ length kept + 1
  added_length kept v after (inl h) = subst (λ l. length l ≤ length kept + 1) (sym h.1) (omega arith)
  added_length kept v after (inr h) = let l = left_length (CoversVariant d v) kept h.1.0 h.1.1 in let e = ap length h.1.2 ∙ length-append h.1.0 (v ∷ []) in omega (arith, l, e)

  -- no member covers another, as before
  pub added_apart : (kept : List Variant) (v : Variant) (after : List Variant) → IsAdded d kept v after → IsApart (CoversVariant d) kept → IsApart (CoversVariant d) after
  added_apart kept v after (inl h) apart = subst (IsApart (CoversVariant d)) (sym h.1) apart
  added_apart kept v after (inr h) apart =
      subst (IsApart (CoversVariant d)) (sym h.1.2)
      (
      all_pairs_push (λ s c. (CoversVariant d s c → ⊥) × (CoversVariant d c s → ⊥)) h.1.0 v
      (pairs_left (CoversVariant d v) (λ s c. (CoversVariant d s c → ⊥) × (CoversVariant d c s → ⊥)) kept h.1.0 h.1.1 apart)
      (λ k e l. (all_left (CoversVariant d v) (λ z. CoversVariant d z v → ⊥) kept h.1.0 h.1.1 (any_none (λ z. CoversVariant d z v) kept h.0) k e l, left_never (CoversVariant d v) kept h.1.0 h.1.1 k e l))
      )

  module _ (order : CoveringIsAPreorder d) (kept : List Variant) (v : Variant) where
    -- the new one is covered
    pub added_new : (after : List Variant) → IsAdded d kept v after → IsCoveredBySome d after v
    added_new after (inl h) = subst (λ l. IsCoveredBySome d l v) (sym h.1) h.0
    added_new after (inr h) = subst (λ l. IsCoveredBySome d l v) (sym h.1.2) (Any-push (λ z. CoversVariant d z v) h.1.0 v (order.reflexive v))

    -- and so is each that was
    pub added_still : All (AreAlike v) kept → (after : List Variant) → IsAdded d kept v after → (g : Variant) → IsCoveredBySome d kept g → IsCoveredBySome d after g
    added_still alike after (inl h) g some = subst (λ l. IsCoveredBySome d l g) (sym h.1) some
    added_still alike after (inr h) g some =
        let k = any_contains (λ k. CoversVariant d k g) kept some in
        subst (λ l. IsCoveredBySome d l g) (sym h.1.2) (go k.0 k.1.0 k.1.1 (went_or_left (CoversVariant d v) kept h.1.0 k.0 h.1.1 k.1.0))
      where
        go : (k : Variant) → Contains kept k → CoversVariant d k g → CoversVariant d v k ⊎ Contains h.1.0 k → IsCoveredBySome d (h.1.0 ++ v ∷ []) g
        go k m p (inl q) = Any-push (λ z. CoversVariant d z g) h.1.0 v (order.transitive v k g (all_at (AreAlike v) kept m.0 k alike m.1 (sym m.2)) q p)
        go k m p (inr n) = any_of (λ z. CoversVariant d z g) (h.1.0 ++ v ∷ []) k (Contains-append_left h.1.0 (v ∷ []) k n) p
