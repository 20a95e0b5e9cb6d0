-- What is kept of candidates.
use Rattle.std.proofs.Common.{◌≡◌, ◌<◌, List, [], ◌∷◌, map, length, get_or, sym, subst, arith}
use Rattle.std.specs.Prelude.{All, AllPairs, Any, Contains, filter}
use Rattle.std.proofs.lemmas.List.{get_or-map, length-map}
use Rattle.std.proofs.lemmas.List.Elements.{All-map, All-weaker, All-contains, All-contains_itself}
use Rattle.fvn_base.proofs.Membership.{filter_contains, contains_map, map_contains}
use Rattle.fvn_terms.specs.declared.plain.Var.{Var}
use Rattle.fvn_terms.specs.declared.declarations.Declarations.{Declarations}
use Rattle.fvn_terms.specs.Substitution.{Substitution}
use Rattle.fvn_terms.specs.Unifiers.{IsInstance}
use Rattle.fvn_terms.specs.CompleteSets.{IsApart}
use Rattle.fvn_flat.specs.Bindings.{Bindings}
use Rattle.fvn_flat.specs.Solving.{substitution}
use Rattle.fvn_cover.specs.declared.variant.Variant.{Variant}
use Rattle.fvn_cover.specs.Covering.{CoversVariant}
use Rattle.fvn_cover.specs.Pruning.{all_of, chosen, IsPruned, IsCoveredBySome}
use Rattle.fvn_cover.specs.Laws.{CoveringOfUnifiersIsInstance}
use Rattle.fvn_cover.proofs.Leftovers.{any_contains, any_of}

-- what is kept was given
pub kept_given : (d : Declarations) (given kept : List Variant) → IsPruned d given kept → (w : Variant) → Contains kept w → Contains given w
kept_given d given kept p w m =
    let chosen_one : Contains (chosen p.choices) w = subst (λ l. Contains l w) (sym p.sublist) m in
    let c = map_contains (λ c. c.0) (filter (λ c. c.1) p.choices) w chosen_one in
    let one = filter_contains (λ c. c.1) p.choices c.0 c.1.0 in
    subst (λ l. Contains l w) p.whole (subst (Contains (all_of p.choices)) c.1.1 (contains_map (λ c. c.0) p.choices c.0 one.0))

-- pairs of what is read of members
all_pairs_mapped : {X Y : Type 0} (f : X → Y) (R : Y → Y → Type 0) (xs : List X) → AllPairs (λ a b. R (f a) (f b)) xs → AllPairs R (map f xs)
all_pairs_mapped f R [] h i j d l m = absurd (omega (arith, m))
all_pairs_mapped f R (x ∷ xs) h i j d l m =
    let n : j < length (x ∷ xs) = omega (arith, m, length-map (x ∷ xs) f) in
    subst (λ a. R a (get_or (map f (x ∷ xs)) j d)) (sym (get_or-map f (x ∷ xs) i x d (omega (arith, l, n))))
    (subst (λ b. R (f (get_or (x ∷ xs) i x)) b) (sym (get_or-map f (x ∷ xs) j x d n)) (h i j x l n))

-- the substitutions of variants
abbrev pub substitutions : List Variant → List Bindings
substitutions list = map (λ u. u.subst) list

-- it has no terms, and the variables of a problem
pub record IsBare (vars : List Var) (u : Variant) : Type 0 where
  pub no_terms : u.terms ≡ []
  pub from : (x : Var) → Contains vars x → Contains u.vars x
  pub to : (x : Var) → Contains u.vars x → Contains vars x

module _ (d : Declarations) (law : CoveringOfUnifiersIsInstance) (vars : List Var) (given kept : List Variant) (pruned : IsPruned d given kept)
    (bare : (u : Variant) → Contains given u → IsBare vars u) where
  kept_bare : (w : Variant) → Contains kept w → IsBare vars w
  kept_bare w m = bare w (kept_given d given kept pruned w m)

  -- a kept one that covers another is above it, and the other way round
  above_covered : (w u : Variant) → IsBare vars w → IsBare vars u → CoversVariant d w u → IsInstance d vars (substitution u.subst) (substitution w.subst)
  above_covered w u bw bu c =
      let i = (law d w u bw.no_terms bu.no_terms).0 c in
      record { after = i.after; well_sorted = i.well_sorted; equal = λ x m. i.equal x (bw.from x m) }

  covered_above : (w u : Variant) → IsBare vars w → IsBare vars u → IsInstance d vars (substitution u.subst) (substitution w.subst) → CoversVariant d w u
  covered_above w u bw bu i =
      (law d w u bw.no_terms bu.no_terms).1 (record { after = i.after; well_sorted = i.well_sorted; equal = λ x m. i.equal x (bw.to x m) })

  -- what is an instance of a given one is an instance of a kept one
  pub kept_above : ((a b c : Substitution) → IsInstance d vars a b → IsInstance d vars b c → IsInstance d vars a c) →
      (s : Substitution) → Any (λ u. IsInstance d vars s (substitution u.subst)) given → Any (IsInstance d vars s) (map substitution (substitutions kept))
  kept_above chain s some =
      let u = any_contains (λ u. IsInstance d vars s (substitution u.subst)) given some in
      let w = any_contains (λ k. CoversVariant d k u.0) kept (All-contains (IsCoveredBySome d kept) given u.0 pruned.dropped u.1.0) in
      any_of (IsInstance d vars s) (map substitution (substitutions kept)) (substitution w.0.subst)
      (contains_map substitution (substitutions kept) w.0.subst (contains_map (λ u. u.subst) kept w.0 w.1.0))
      (chain s (substitution u.0.subst) (substitution w.0.subst) u.1.1 (above_covered w.0 u.0 (kept_bare w.0 w.1.0) (bare u.0 u.1.0) w.1.1))

  -- none of them is an instance of another
  pub kept_apart : IsApart (IsInstance d vars) (map substitution (substitutions kept))
  kept_apart =
      all_pairs_mapped substitution (λ s c. (IsInstance d vars s c → ⊥) × (IsInstance d vars c s → ⊥)) (substitutions kept)
      (
      all_pairs_mapped (λ u. u.subst) (λ s c. (IsInstance d vars (substitution s) (substitution c) → ⊥) × (IsInstance d vars (substitution c) (substitution s) → ⊥)) kept
      (
      λ i j e l m.
      let n : i < length kept = omega (arith, l, m) in
      let a = each_bare i e n in
      let b = each_bare j e m in
      let p = pruned.apart i j e l m in
      (λ q. p.1 (covered_above (get_or kept j e) (get_or kept i e) b a q), λ q. p.0 (covered_above (get_or kept i e) (get_or kept j e) a b q))
      )
      )
    where
      each_bare : All (IsBare vars) kept
      each_bare = All-weaker (Contains kept) (IsBare vars) kept_bare kept (All-contains_itself kept)

  -- what holds of each that was given holds of the substitution of each kept one
  pub kept_all : (P : Bindings → Type 0) → ((u : Variant) → Contains given u → P u.subst) → All P (substitutions kept)
  kept_all P f =
      All-map P (λ u. u.subst) kept (All-weaker (Contains kept) (λ u. P u.subst) (λ u m. f u (kept_given d given kept pruned u m)) kept (All-contains_itself kept))
