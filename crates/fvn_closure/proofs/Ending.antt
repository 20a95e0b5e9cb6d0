-- Explorations: what finitely many variants give, and shortest lists.
use Rattle.std.proofs.Common.{◌≡◌, List, [], ◌∷◌, get_or, map, refl, subst, inr, arith}
use Rattle.std.specs.Prelude.{Any}
use Rattle.std.specs.List.{All}
use Rattle.std.proofs.lemmas.List.Elements.{All-contains, All-map, All-tail, All-weaker, Contains-get_or}
use Rattle.std.proofs.lemmas.List.Kept.{AllPairs-cons}
use Rattle.fvn_base.proofs.Membership.{contains_here, contains_later, contains_map}
use Rattle.fvn_base.proofs.Pigeonhole.{AllPairs-tail, AllPairs-first}
use Rattle.fvn_terms.specs.declared.plain.Var.{Var}
use Rattle.fvn_terms.specs.Substitution.{Substitution}
use Rattle.fvn_terms.specs.Unifiers.{Problem}
use Rattle.fvn_terms.specs.Rewriting.{IsTerminating, IsConfluent}
use Rattle.fvn_terms.specs.Variants.{Covers}
use Rattle.fvn_terms.specs.CompleteSets.{IsApart, IsCompleteSet}
use Rattle.fvn_terms.specs.Laws.{CoveringIsReflexiveAndTransitive}
use Rattle.fvn_terms.proofs.CompleteSets.{apart_and_complete_is_shortest}
use Rattle.fvn_forms.specs.Flat.{FlatTerm, plain}
use Rattle.fvn_flat.specs.Solving.{substitution}
use Rattle.fvn_cover.specs.declared.variant.Variant.{Variant}
use Rattle.fvn_cover.specs.Covering.{CoversVariant}
use Rattle.fvn_exploring.specs.declared.limits.Limits.{Limits}
use Rattle.fvn_exploring.specs.declared.ends.Explored.{Explored}
use Rattle.fvn_exploring.specs.declared.ends.ExploreEnd.TheVariants.{Complete, Levels}
use Rattle.fvn_exploring.specs.Setting.{Setting}
use Rattle.fvn_exploring.specs.LevelRuns.{AreVariablesOf}
use Rattle.fvn_exploring.specs.Explorations.{IsFound, IsBelowLevel, IsExploreCause, IsExploration}
use Rattle.fvn_closure.specs.Closing.{IsExplorable, Reached, reached_of, IsReachedVariant, IsCoveredBy, IsVariantWithin}
use Rattle.fvn_closure.specs.Laws.{ExplorationLaws}
use Rattle.fvn_closure.proofs.Known.{IsKnown}
use Rattle.fvn_closure.proofs.Carrying.{covers_on, same_variables}
use Rattle.fvn_closure.proofs.Found.{child_found, all_found}

module _ (g : Setting) (start : List FlatTerm) (explorable : IsExplorable g start) (known : IsKnown g.declarations g.equations) (order : CoveringIsReflexiveAndTransitive)
    (drawn : Problem → Substitution → Type 0) (confluent : IsConfluent g.declarations g.equations) (limits : Limits) (x : Explored) (h : IsExploration g drawn start limits x) (vars : List Var) (variables : AreVariablesOf start vars) where
  -- what is below the last level is a variant
  below_found : (v : Variant) → IsBelowLevel g drawn start limits.levels x v → IsFound g start v
  below_found v b =
      let parent = All-contains (λ m. IsFound g start m.variant) x.kept b.parent (all_found g start explorable known drawn x.kept h.run) b.listed in
      child_found g start explorable known drawn b.parent.variant v parent b.child

  finite : (list : List Reached) → All (IsVariantWithin g start limits.levels) list → ((p : Reached) → IsReachedVariant g start p → Any (IsCoveredBy g start vars p) list) → (v : Variant) → x.end ≡ Levels v → ⊥
  finite list within complete v e = go (complete (reached_of v) found.variant) where
    below : IsBelowLevel g drawn start limits.levels x v
    below = subst (IsExploreCause g drawn start limits x) e h.cause

    found : IsFound g start v
    found = below_found v below

    go : Any (IsCoveredBy g start vars (reached_of v)) list → ⊥
    go (i, p, l, is, covers) = covered (h.within confluent limits.levels (inr (v, e, refl)) p.0 p.1 both.0 both.1) where
      both : IsVariantWithin g start limits.levels p
      both = All-contains (IsVariantWithin g start limits.levels) list p within (i, l, is)

      covered : Any (λ w. Covers g.declarations w.vars (map plain w.terms) (substitution w.subst) p.0 p.1) x.variants → ⊥
      covered (j, w, m, at, c) =
          let given = All-contains (IsFound g start) x.variants w h.found (j, m, at) in
          let on = covers_on g.declarations vars w.vars p.0 p.1 (map plain v.terms) (substitution v.subst) (same_variables start w.vars vars given.vars variables) covers in
          below.given (j, w, m, at, (order g.declarations w.vars).transitive (map plain w.terms) p.0 (map plain v.terms) (substitution w.subst) p.1 (substitution v.subst) c on)

  -- the given ones are a complete set
  complete_set : x.end ≡ Complete → IsTerminating g.declarations g.equations → IsCompleteSet (IsReachedVariant g start) (IsCoveredBy g start vars) (map reached_of x.variants)
  complete_set e terminating = record {
    sound = All-map (IsReachedVariant g start) reached_of x.variants (All-weaker (IsFound g start) (λ v. IsReachedVariant g start (reached_of v)) (λ v f. f.variant) x.variants h.found);
    complete = λ p v. go p (h.complete e terminating confluent p.0 p.1 v);
  } where
    go : (p : Reached) → Any (λ w. Covers g.declarations w.vars (map plain w.terms) (substitution w.subst) p.0 p.1) x.variants → Any (IsCoveredBy g start vars p) (map reached_of x.variants)
    go p (j, w, m, at, c) =
        let given = All-contains (IsFound g start) x.variants w h.found (j, m, at) in
        let i = contains_map reached_of x.variants w (j, m, at) in
        (i.0, reached_of w, i.1, i.2, covers_on g.declarations w.vars vars (map plain w.terms) (substitution w.subst) p.0 p.1 (same_variables start vars w.vars variables given.vars) c)

  -- of which none covers another
  abbrev NoneCovers : Reached → Reached → Type 0
  NoneCovers p q = (IsCoveredBy g start vars p q → ⊥) × (IsCoveredBy g start vars q p → ⊥)

  abbrev AreApart : Variant → Variant → Type 0
  AreApart v w = (CoversVariant g.declarations v w → ⊥) × (CoversVariant g.declarations w v → ⊥)

  covers_of : (v w : Variant) → IsFound g start w → IsCoveredBy g start vars (reached_of v) (reached_of w) → CoversVariant g.declarations w v
  covers_of v w found c = covers_on g.declarations vars w.vars (map plain w.terms) (substitution w.subst) (map plain v.terms) (substitution v.subst) (same_variables start w.vars vars found.vars variables) c

  apart_too : (v w : Variant) → IsFound g start v → IsFound g start w → AreApart v w → NoneCovers (reached_of v) (reached_of w)
  apart_too v w fv fw n = (λ c. n.1 (covers_of v w fw c), λ c. n.0 (covers_of w v fv c))

  set_apart : (list : List Variant) → All (IsFound g start) list → IsApart (CoversVariant g.declarations) list → IsApart (IsCoveredBy g start vars) (map reached_of list)
  set_apart [] f n = λ i j d l m. absurd (omega (arith, m))
  set_apart (v ∷ list) f n =
      AllPairs-cons NoneCovers (reached_of v) (map reached_of list) (All-map (NoneCovers (reached_of v)) reached_of list each) (set_apart list (All-tail (IsFound g start) v list f) (AllPairs-tail AreApart v list n))
    where
      each : All (λ w. NoneCovers (reached_of v) (reached_of w)) list
      each k e l =
          let w = get_or list k e in
          let m = Contains-get_or list k e l in
          apart_too v w (All-contains (IsFound g start) (v ∷ list) v f (contains_here v list)) (All-contains (IsFound g start) (v ∷ list) w f (contains_later v list w m)) (AllPairs-first AreApart v list w n m)

  transitive : (p q r : Reached) → IsCoveredBy g start vars p q → IsCoveredBy g start vars q r → IsCoveredBy g start vars p r
  transitive p q r a b = (order g.declarations vars).transitive r.0 q.0 p.0 r.1 q.1 p.1 b a

  pub exploration_laws : ExplorationLaws g start limits x vars
  exploration_laws = record {
    finite = finite;
    shortest = λ e terminating.
        apart_and_complete_is_shortest (IsReachedVariant g start) (IsCoveredBy g start vars) transitive (map reached_of x.variants) (complete_set e terminating)
        (set_apart x.variants h.found h.pruned.apart);
  }
