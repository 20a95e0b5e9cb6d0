-- An exploration from its level run, its closed levels and its cause.
use Rattle.std.proofs.Common.{◌≡◌, ℕ, ◌≤◌, List, length, map, sym, subst}
use Rattle.std.specs.Prelude.{Bool, Contains, filter}
use Rattle.std.proofs.lemmas.List.Elements.{All-contains}
use Rattle.fvn_base.proofs.Membership.{contains_map, map_contains, filter_contains}
use Rattle.fvn_terms.specs.declared.declarations.Declarations.{Declarations}
use Rattle.fvn_terms.specs.Term.{Term}
use Rattle.fvn_terms.specs.Substitution.{Substitution}
use Rattle.fvn_terms.specs.Unifiers.{Problem}
use Rattle.fvn_terms.specs.Variants.{Covers}
use Rattle.fvn_terms.specs.Laws.{CoveringIsReflexiveAndTransitive}
use Rattle.fvn_forms.specs.Flat.{FlatTerm, plain}
use Rattle.fvn_flat.specs.Solving.{substitution}
use Rattle.fvn_cover.specs.declared.variant.Variant.{Variant}
use Rattle.fvn_cover.specs.Covering.{CoversVariant}
use Rattle.fvn_cover.specs.Pruning.{IsPruned, IsCoveredBySome}
use Rattle.fvn_exploring.specs.declared.limits.Limits.{Limits}
use Rattle.fvn_exploring.specs.declared.ends.Deep.{Deep}
use Rattle.fvn_exploring.specs.declared.ends.Explored.{Explored}
use Rattle.fvn_exploring.specs.declared.ends.ExploreEnd.TheVariants.{Complete}
use Rattle.fvn_exploring.specs.Setting.{Setting}
use Rattle.fvn_exploring.specs.LevelRuns.{IsLevelRun}
use Rattle.fvn_exploring.specs.Explorations.{variants_of, IsCovered, IsFound, IsExploreCause, ReachesPast, IsExploration}
use Rattle.fvn_closure.specs.Closing.{IsExplorable, AreClosedBelow}
use Rattle.fvn_closure.specs.Laws.{LevelRunsAreLawful, LevelRunLaws}
use Rattle.fvn_closure.proofs.Carrying.{covers_on, same_variables}
use Rattle.fvn_fold.proofs.Gathers.{all_members, member_of_any, any_member}

-- what is kept of a list stood in it
pub pruned_listed : (d : Declarations) (given kept : List Variant) → IsPruned d given kept → (v : Variant) → Contains kept v → Contains given v
pruned_listed d given kept h v m =
    let c = map_contains (λ (c : Variant × Bool). c.0) (filter (λ c. c.1) h.choices) v (subst (λ l. Contains l v) (sym h.sublist) m) in
    let i = filter_contains (λ (c : Variant × Bool). c.1) h.choices c.0 c.1.0 in
    subst (λ l. Contains l v) h.whole (subst (Contains (map (λ (c : Variant × Bool). c.0) h.choices)) c.1.1 (contains_map (λ (c : Variant × Bool). c.0) h.choices c.0 i.0))

module _ (g : Setting) (drawn : Problem → Substitution → Type 0) (start : List FlatTerm) (explorable : IsExplorable g start) (laws : LevelRunsAreLawful g drawn) (order : CoveringIsReflexiveAndTransitive) (limits : Limits) (x : Explored) where
  -- what is known of what was explored
  pub record IsOutcome : Type 0 where
    pub run : IsLevelRun g drawn start x.kept
    pub some : (m : Deep) × Contains x.kept m
    pub few : length x.kept ≤ limits.variants
    pub shallow : (m : Deep) → Contains x.kept m → m.depth ≤ limits.levels
    pub pruned : IsPruned g.declarations (variants_of x.kept) x.variants
    pub complete : x.end ≡ Complete → (k : ℕ) → AreClosedBelow g x.kept k
    pub reach : (k : ℕ) → ReachesPast g drawn start limits x k → AreClosedBelow g x.kept k
    pub cause : IsExploreCause g drawn start limits x x.end

  module _ (h : IsOutcome) where
    run_laws : LevelRunLaws g start x.kept
    run_laws = laws start explorable x.kept h.run

    kept_found : (v : Variant) → Contains (variants_of x.kept) v → IsFound g start v
    kept_found v i = let m = map_contains (λ (m : Deep). m.variant) x.kept v i in subst (IsFound g start) m.1.1 (run_laws.found m.0 m.1.0)

    given_found : (v : Variant) → Contains x.variants v → IsFound g start v
    given_found v i = kept_found v (pruned_listed g.declarations (variants_of x.kept) x.variants h.pruned v i)

    -- what a kept variant covers a given one does
    given_cover : (us : List Term) (s : Substitution) → IsCovered g (variants_of x.kept) us s → IsCovered g x.variants us s
    given_cover us s c =
        let w = member_of_any (λ v. Covers g.declarations v.vars (map plain v.terms) (substitution v.subst) us s) (variants_of x.kept) c in
        let p = member_of_any (λ k. CoversVariant g.declarations k w.0) x.variants (All-contains (IsCoveredBySome g.declarations x.variants) (variants_of x.kept) w.0 (h.pruned).dropped w.1.0) in
        let same = same_variables start (p.0).vars (w.0).vars (given_found p.0 p.1.0).vars (kept_found w.0 w.1.0).vars in
        let on = covers_on g.declarations (w.0).vars (p.0).vars (map plain (w.0).terms) (substitution (w.0).subst) us s same w.1.1 in
        any_member (λ v. Covers g.declarations v.vars (map plain v.terms) (substitution v.subst) us s) x.variants p.0 p.1.0
        ((order g.declarations (p.0).vars).transitive (map plain (p.0).terms) (map plain (w.0).terms) us (substitution (p.0).subst) (substitution (w.0).subst) s p.1.1 on)

    pub exploration : IsExploration g drawn start limits x
    exploration = record {
      lawful = explorable.lawful;
      fixed = explorable.fixed;
      run = h.run;
      few = h.few;
      shallow = all_members (λ (m : Deep). m.depth ≤ limits.levels) x.kept h.shallow;
      pruned = h.pruned;
      found = all_members (IsFound g start) x.variants given_found;
      complete = λ e terminating confluent us s v. given_cover us s (run_laws.complete terminating confluent (h.some).0 (h.some).1 (h.complete e) us s v);
      within = λ confluent k past us s v within. given_cover us s (run_laws.within confluent (h.some).0 (h.some).1 k (h.reach k past) us s v within);
      cause = h.cause;
    }
