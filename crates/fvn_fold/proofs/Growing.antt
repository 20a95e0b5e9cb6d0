-- Level runs with one more level.
use Rattle.std.proofs.Common.{◌≡◌, ◌⊎◌, ℕ, ◌+◌, ◌≤◌, List, [], ◌∷◌, ◌++◌, length, get_or, map, sym, ap, ◌∙◌, subst, inl, inr, arith}
use Rattle.std.specs.Prelude.{AllPairs, Contains}
use Rattle.std.proofs.lemmas.List.{append-nil, append_assoc, length-append, map-append}
use Rattle.std.proofs.lemmas.List.Elements.{All-map, Contains-get_or, Contains-append_left, Contains-append_right, Contains-append_cases}
use Rattle.std.proofs.lemmas.List.Kept.{AllPairs-cons}
use Rattle.fvn_base.proofs.Membership.{contains_here, contains_later, contains_cases, contains_none, contains_map, map_contains}
use Rattle.fvn_base.proofs.Pigeonhole.{AllPairs-tail, AllPairs-first}
use Rattle.fvn_terms.specs.Substitution.{Substitution}
use Rattle.fvn_terms.specs.Unifiers.{Problem}
use Rattle.fvn_terms.specs.CompleteSets.{IsApart}
use Rattle.fvn_forms.specs.Flat.{FlatTerm}
use Rattle.fvn_cover.specs.declared.variant.Variant.{Variant}
use Rattle.fvn_cover.specs.Covering.{CoversVariant}
use Rattle.fvn_cover.specs.Pruning.{IsCoveredBySome}
use Rattle.fvn_exploring.specs.declared.ends.Deep.{Deep}
use Rattle.fvn_exploring.specs.Setting.{Setting}
use Rattle.fvn_exploring.specs.Children.{IsChild}
use Rattle.fvn_exploring.specs.LevelRuns.{HasParent, AreFolded, IsLevelRun}
use Rattle.fvn_exploring.specs.Explorations.{variants_of}
use Rattle.fvn_closure.proofs.OneMore.{run_push}
use Rattle.fvn_fold.specs.inner.Running.{at_depth}
use Rattle.fvn_fold.proofs.Gathers.{any_member}

module _ {A : Type 0} where
  -- what holds of two of a list
  pub pairs_split : (R : A → A → Type 0) (before : List A) (m : A) (after : List A) → AllPairs R (before ++ m ∷ after) → (x : A) → Contains before x → R x m
  pairs_split R [] m after h x i = absurd (contains_none x i)
  pairs_split R (b ∷ before) m after h x i = go (contains_cases b before x i) (pairs_split R before m after (AllPairs-tail R b (before ++ m ∷ after) h) x) where
    go : (b ≡ x) ⊎ Contains before x → (Contains before x → R x m) → R x m
    go (inl e) later = subst (λ y. R y m) e (AllPairs-first R b (before ++ m ∷ after) m h (Contains-append_right before (m ∷ after) m (contains_here m after)))
    go (inr l) later = later l

  -- what holds of the front of a list
  pub pairs_front : (R : A → A → Type 0) (front back : List A) → AllPairs R (front ++ back) → AllPairs R front
  pairs_front R [] back h = λ i j d l m. absurd (omega (arith, m))
  pairs_front R (x ∷ front) back h =
      AllPairs-cons R x front
      (λ k e l. AllPairs-first R x (front ++ back) (get_or front k e) h (Contains-append_left front back (get_or front k e) (Contains-get_or front k e l)))
      (pairs_front R front back (AllPairs-tail R x (front ++ back) h))

-- what is read of each
pub pairs_mapped : {A B : Type 0} (f : A → B) (R : B → B → Type 0) (xs : List A) → AllPairs (λ a b. R (f a) (f b)) xs → AllPairs R (map f xs)
pairs_mapped f R [] h = λ i j d l m. absurd (omega (arith, m))
pairs_mapped f R (x ∷ xs) h =
    AllPairs-cons R (f x) (map f xs)
    (All-map (R (f x)) f xs (λ k e l. AllPairs-first (λ a b. R (f a) (f b)) x xs (get_or xs k e) h (Contains-get_or xs k e l)))
    (pairs_mapped f R xs (AllPairs-tail (λ a b. R (f a) (f b)) x xs h))

module _ (g : Setting) (drawn : Problem → Substitution → Type 0) (start : List FlatTerm) where
  -- with some of the next level
  module _ (run : List Deep) (depth : ℕ) (some : 1 ≤ length run) (bound : (a : Deep) → Contains run a → a.depth ≤ depth) where
    abbrev grown : List Variant → List Deep
    grown front = run ++ map (at_depth (depth + 1)) front

    -- where a parent of each stands, which no member covers
    pub record HasPlace (w : Variant) : Type 0 where
      pub parent : Deep
      pub listed : Contains run parent
      pub level : parent.depth ≡ depth
      pub child : IsChild g drawn parent.variant w
      pub uncovered : IsCoveredBySome g.declarations (variants_of run) w → ⊥

    grown_more : (front : List Variant) (w : Variant) → grown (front ++ w ∷ []) ≡ grown front ++ at_depth (depth + 1) w ∷ []
    grown_more front w = ap (λ l. run ++ l) (map-append (at_depth (depth + 1)) front (w ∷ [])) ∙ sym (append_assoc run (map (at_depth (depth + 1)) front) (at_depth (depth + 1) w ∷ []))

    grown_some : (front : List Variant) → 1 ≤ length (grown front)
    grown_some front = let l = length-append run (map (at_depth (depth + 1)) front) in omega (arith, l, some)

    grown_next : (front : List Variant) (w : Variant) → IsLevelRun g drawn start (grown front) → HasPlace w → ((v : Variant) → Contains front v → (CoversVariant g.declarations v w → ⊥) × (CoversVariant g.declarations w v → ⊥)) → IsLevelRun g drawn start (grown (front ++ w ∷ []))
    grown_next front w h p apart = subst (IsLevelRun g drawn start) (sym (grown_more front w)) (run_push g drawn start (grown front) (at_depth (depth + 1) w) (grown_some front) h parent (λ a m. folds a (Contains-append_cases run (map (at_depth (depth + 1)) front) a m))) where
      parent : HasParent g drawn (grown front) (at_depth (depth + 1) w)
      parent = record { parent = p.parent; listed = Contains-append_left run (map (at_depth (depth + 1)) front) p.parent p.listed; above = ap (λ (n : ℕ). n + 1) p.level; child = p.child }

      folds : (a : Deep) → Contains run a ⊎ Contains (map (at_depth (depth + 1)) front) a → (a.depth ≤ (depth + 1)) × AreFolded g a (at_depth (depth + 1) w)
      folds a (inl l) =
          let low = bound a l in (
            omega (arith, low),
            (λ c. p.uncovered (any_member (λ k. CoversVariant g.declarations k w) (variants_of run) a.variant (contains_map (λ (m : Deep). m.variant) run a l) c), λ e c. absurd (omega (arith, low, e))),
          )
      folds a (inr r) =
          let v = map_contains (at_depth (depth + 1)) front a r in
          subst (λ b. (b.depth ≤ (depth + 1)) × AreFolded g b (at_depth (depth + 1) w)) v.1.1 (omega arith, ((apart v.0 v.1.0).0, λ e. (apart v.0 v.1.0).1))

    grown_on : (front rest : List Variant) → IsLevelRun g drawn start (grown front) → ((w : Variant) → Contains rest w → HasPlace w) → IsApart (CoversVariant g.declarations) (front ++ rest) → IsLevelRun g drawn start (grown (front ++ rest))
    grown_on front [] h place apart = subst (λ l. IsLevelRun g drawn start (grown l)) (sym (append-nil front)) h
    grown_on front (w ∷ rest) h place apart =
        let on = append_assoc front (w ∷ []) rest in
        subst (λ l. IsLevelRun g drawn start (grown l)) on
        (grown_on (front ++ w ∷ []) rest
        (grown_next front w h (place w (contains_here w rest)) (pairs_split (λ s c. (CoversVariant g.declarations s c → ⊥) × (CoversVariant g.declarations c s → ⊥)) front w rest apart))
        (λ v m. place v (contains_later w rest v m))
        (subst (IsApart (CoversVariant g.declarations)) (sym on) apart))

    -- the run with some of the next level is one
    pub run_grown : IsLevelRun g drawn start run → (front : List Variant) → ((w : Variant) → Contains front w → HasPlace w) → IsApart (CoversVariant g.declarations) front → IsLevelRun g drawn start (grown front)
    run_grown h front place apart = grown_on [] front (subst (IsLevelRun g drawn start) (sym (append-nil run)) h) place apart
