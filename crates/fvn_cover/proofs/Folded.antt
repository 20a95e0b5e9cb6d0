-- Lists of which no member covers a later one.
use Rattle.std.proofs.Common.{◌≡◌, ◌<◌, List, length, get_or, take, refl, sym, ap, ◌∙◌, subst, arith}
use Rattle.std.specs.Prelude.{All, AllPairs, Contains}
use Rattle.std.proofs.lemmas.List.{get_or-take, get_or_default}
use Rattle.std.proofs.lemmas.List.Elements.{All-contains}
use Rattle.fvn_terms.specs.declared.declarations.Declarations.{Declarations}
use Rattle.fvn_cover.specs.declared.variant.Variant.{Variant}
use Rattle.fvn_cover.specs.Covering.{CoversVariant}
use Rattle.fvn_cover.specs.Pruning.{IsCoveredBySome}
use Rattle.fvn_cover.proofs.Leftovers.{any_contains}

module _ (d : Declarations) (all yielded : List Variant) (v : Variant) (so_far : yielded ≡ take (length yielded) all) where
  -- where one of the first stands in the whole list
  earlier_at : (k : Variant) → (m : Contains yielded k) → k ≡ get_or all m.0 v
  earlier_at k m =
      sym m.2
      ∙ get_or_default yielded m.0 k v m.1
      ∙ ap (λ l. get_or l m.0 v) so_far
      ∙ get_or-take (length yielded) all m.0 v m.1

  -- none of the first covers the next one
  pub next_is_free : (kept : List Variant) → length yielded < length all → v ≡ get_or all (length yielded) v
      → AllPairs (λ a b. CoversVariant d a b → ⊥) all → All (Contains yielded) kept → IsCoveredBySome d kept v → ⊥
  next_is_free kept within at folded among some =
      let k = any_contains (λ k. CoversVariant d k v) kept some in
      let m : Contains yielded k.0 = All-contains (Contains yielded) kept k.0 among k.1.0 in
      let never = folded m.0 (length yielded) v m.1 within in
      never (subst (λ a. CoversVariant d a (get_or all (length yielded) v)) (earlier_at k.0 m) (subst (CoversVariant d k.0) at k.1.1))
