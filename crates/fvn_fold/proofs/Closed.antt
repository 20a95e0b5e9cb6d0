-- Levels that are closed by what is kept and by the next level.
use Rattle.std.proofs.Common.{◌≡◌, ◌⊎◌, ℕ, ◌+◌, ◌<◌, ◌≤◌, List, ◌++◌, map, refl, sym, subst, inl, inr, arith}
use Rattle.std.specs.Prelude.{Any, Contains}
use Rattle.std.proofs.lemmas.List.Elements.{All-contains, Contains-append_left, Contains-append_right, Contains-append_cases}
use Rattle.fvn_base.proofs.Membership.{contains_map, map_contains}
use Rattle.fvn_terms.specs.Substitution.{Substitution}
use Rattle.fvn_terms.specs.Unifiers.{Problem}
use Rattle.fvn_forms.specs.Flat.{FlatTerm}
use Rattle.fvn_cover.specs.declared.variant.Variant.{Variant}
use Rattle.fvn_cover.specs.Covering.{CoversVariant}
use Rattle.fvn_exploring.specs.declared.ends.Deep.{Deep}
use Rattle.fvn_exploring.specs.declared.ends.ExpandEnd.{ExpandEnd}
use Rattle.fvn_exploring.specs.declared.ends.ExpandEnd.TheVariants.{Whole}
use Rattle.fvn_exploring.specs.Setting.{Setting}
use Rattle.fvn_exploring.specs.Children.{IsChild}
use Rattle.fvn_exploring.specs.Liftings.{LiftsInto, IsLifted}
use Rattle.fvn_closure.specs.Closing.{IsKeptWithin, AreClosedBelow}
use Rattle.fvn_closure.specs.Laws.{CoveringsCarryLiftings}
use Rattle.fvn_fold.specs.inner.Gathering.{IsCoveredByEither, IsNextLevel}
use Rattle.fvn_fold.specs.inner.Running.{at_depth, LevelLists, deep_of, IsExploredTo}
use Rattle.fvn_fold.proofs.Gathers.{member_of_any, lifts_weaker}
use Rattle.fvn_fold.proofs.Nexts.{like_back, like_on, kept_like, child_like}

-- closed levels stay so where more is kept that is deeper
pub closed_more : (g : Setting) (run more : List Deep) (below : ℕ) → ((m : Deep) → Contains more m → below ≤ m.depth) → AreClosedBelow g run below → AreClosedBelow g (run ++ more) below
closed_more g run more below deep h m i above = go (Contains-append_cases run more m i) where
  wider : (most : ℕ) (c : Variant) → IsKeptWithin run most c → IsKeptWithin (run ++ more) most c
  wider most c k = (k.0, Contains-append_left run more k.0 k.1, k.2, k.3)

  go : Contains run m ⊎ Contains more m → LiftsInto g m.variant (IsKeptWithin (run ++ more) (m.depth + 1))
  go (inl l) = lifts_weaker g m.variant (IsKeptWithin run (m.depth + 1)) (IsKeptWithin (run ++ more) (m.depth + 1)) (wider (m.depth + 1)) (h m l above)
  go (inr r) = absurd (let l : below ≤ m.depth = deep m r in omega (arith, l, above))

-- fewer levels are closed too
pub closed_fewer : (g : Setting) (run : List Deep) (below k : ℕ) → k ≤ below → AreClosedBelow g run below → AreClosedBelow g run k
closed_fewer g run below k l h m i above = h m i (omega (arith, l, above))

-- where no member is deeper, all levels are closed
pub closed_all : (g : Setting) (run : List Deep) (depth : ℕ) → ((m : Deep) → Contains run m → m.depth ≤ depth) → AreClosedBelow g run (depth + 1) → (k : ℕ) → AreClosedBelow g run k
closed_all g run depth bound h k m i above = let l : m.depth ≤ depth = bound m i in h m i (omega (arith, l))

module _ (g : Setting) (drawn : Problem → Substitution → Type 0) (start : List FlatTerm) (depth : ℕ) (r : LevelLists) (explored : IsExploredTo g drawn start depth r) where
  abbrev run : List Deep
  run = deep_of r depth

  -- members of the last level have its depth, all others are above
  pub bound : (m : Deep) → Contains run m → m.depth ≤ depth
  bound m i = go (Contains-append_cases r.done (map (at_depth depth) r.members) m i) where
    go : Contains r.done m ⊎ Contains (map (at_depth depth) r.members) m → m.depth ≤ depth
    go (inl l) = let a = All-contains (λ (m : Deep). m.depth < depth) r.done m explored.above l in omega (arith, a)
    go (inr l) = let v = map_contains (at_depth depth) r.members m l in subst (λ (n : Deep). n.depth ≤ depth) v.1.1 (omega arith)

  pub kept_deep : (w : Variant) → Contains r.kept w → (m : Deep) × (Contains run m × (m.variant ≡ w))
  kept_deep w i = map_contains (λ (m : Deep). m.variant) run w (subst (λ l. Contains l w) explored.kept i)

  pub deep_kept : (m : Deep) → Contains run m → Contains r.kept m.variant
  deep_kept m i = subst (λ l. Contains l m.variant) (sym explored.kept) (contains_map (λ (m : Deep). m.variant) run m i)

  pub member_deep : (v : Variant) → Contains r.members v → Contains run (at_depth depth v)
  member_deep v i = Contains-append_right r.done (map (at_depth depth) r.members) (at_depth depth v) (contains_map (at_depth depth) r.members v i)

  -- the last level is closed by a whole next level
  module _ (carry : CoveringsCarryLiftings) (next : List Variant) (end : ExpandEnd) (h : IsNextLevel g drawn r.kept r.members next end) (whole : end ≡ Whole) where
    abbrev more : List Deep
    more = map (at_depth (depth + 1)) next

    into : (v c : Variant) → Contains r.members v → IsCoveredByEither g.declarations r.kept next c → (s : Substitution) → IsLifted g v s c → (w : Variant) × IsKeptWithin (run ++ more) (depth + 1) w × IsLifted g v s w
    into v c i (inl k) s l =
        let w = member_of_any (λ n. CoversVariant g.declarations n c) r.kept k in
        let m = kept_deep w.0 w.1.0 in
        let first = explored.ready in
        let same = like_on w.0 first.first v (like_back first.first w.0 (kept_like g r.kept first w.0 w.1.0)) (kept_like g r.kept first v (deep_kept (at_depth depth v) (member_deep v i))) in
        let low = bound m.0 m.1.0 in
        (w.0, (m.0, Contains-append_left run more m.0 m.1.0, m.1.1, omega (arith, low)), carry g v c w.0 same.vars w.1.1 s l)
    into v c i (inr k) s l =
        let w = member_of_any (λ n. CoversVariant g.declarations n c) next k in
        let first = explored.ready in
        let listed = λ (u : Variant) (j : Contains r.members u). deep_kept (at_depth depth u) (member_deep u j) in
        let child = All-contains (λ w. Any (λ m. IsChild g drawn m w) r.members) next w.0 (h.is_next).children w.1.0 in
        let same = like_on w.0 first.first v (like_back first.first w.0 (child_like g r.kept first drawn r.members listed w.0 child)) (kept_like g r.kept first v (listed v i)) in
        let n = at_depth (depth + 1) w.0 in
        (w.0, (n, Contains-append_right run more n (contains_map (at_depth (depth + 1)) next w.0 w.1.0), refl, omega arith), carry g v c w.0 same.vars w.1.1 s l)

    lifts_on : (v : Variant) → Contains r.members v → LiftsInto g v (IsKeptWithin (run ++ more) (depth + 1))
    lifts_on v i s keeps us step =
        let w = All-contains (λ m. LiftsInto g m (IsCoveredByEither g.declarations r.kept next)) r.members v (h.whole whole) i s keeps us step in
        into v w.0 i w.1 s w.2

    more_deep : (m : Deep) → Contains more m → depth + 1 ≤ m.depth
    more_deep m i = let v = map_contains (at_depth (depth + 1)) next m i in subst (λ (n : Deep). depth + 1 ≤ n.depth) v.1.1 (omega arith)

    pub closed_next : AreClosedBelow g (run ++ more) (depth + 1)
    closed_next m i above = go (Contains-append_cases run more m i) where
      wider : (most : ℕ) (c : Variant) → IsKeptWithin run most c → IsKeptWithin (run ++ more) most c
      wider most c k = (k.0, Contains-append_left run more k.0 k.1, k.2, k.3)

      old : Contains r.done m ⊎ Contains (map (at_depth depth) r.members) m → Contains run m → LiftsInto g m.variant (IsKeptWithin (run ++ more) (m.depth + 1))
      old (inl l) j = lifts_weaker g m.variant (IsKeptWithin run (m.depth + 1)) (IsKeptWithin (run ++ more) (m.depth + 1)) (wider (m.depth + 1)) (explored.closed m j (All-contains (λ (m : Deep). m.depth < depth) r.done m explored.above l))
      old (inr l) j = let v = map_contains (at_depth depth) r.members m l in subst (λ (n : Deep). LiftsInto g n.variant (IsKeptWithin (run ++ more) (n.depth + 1))) v.1.1 (lifts_on v.0 v.1.0)

      go : Contains run m ⊎ Contains more m → LiftsInto g m.variant (IsKeptWithin (run ++ more) (m.depth + 1))
      go (inl l) = old (Contains-append_cases r.done (map (at_depth depth) r.members) m l) l
      go (inr j) = absurd (let l = more_deep m j in omega (arith, l, above))
