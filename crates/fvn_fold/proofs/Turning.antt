-- What comes after a level: a longer run, or an outcome.
use Rattle.std.proofs.Common.{◌≡◌, ◌⊎◌, ℕ, ◌≤◌, ◌<◌, ◌+◌, List, [], ◌∷◌, ◌++◌, length, map, refl, sym, ap, ◌∙◌, subst, inl, inr, arith}
use Rattle.std.specs.Prelude.{AllPairs, Any, Contains}
use Rattle.std.proofs.lemmas.List.{append-nil, append_assoc, length-append, map-append, length-map}
use Rattle.std.proofs.lemmas.List.Elements.{All-contains, Contains-append_left, Contains-append_cases}
use Rattle.fvn_base.proofs.Membership.{contains_here, map_contains}
use Rattle.fvn_terms.specs.declared.declarations.Declarations.{Declarations}
use Rattle.fvn_terms.specs.Substitution.{Substitution}
use Rattle.fvn_terms.specs.Unifiers.{Problem}
use Rattle.fvn_terms.specs.CompleteSets.{IsApart}
use Rattle.fvn_terms.specs.Laws.{CoveringIsReflexiveAndTransitive}
use Rattle.fvn_forms.specs.Flat.{FlatTerm}
use Rattle.fvn_cover.specs.declared.variant.Variant.{Variant}
use Rattle.fvn_cover.specs.Covering.{CoversVariant, AreAlike}
use Rattle.fvn_cover.specs.Pruning.{IsPruned, IsCoveredBySome}
use Rattle.fvn_exploring.specs.declared.limits.Limits.{Limits}
use Rattle.fvn_exploring.specs.declared.ends.Deep.{Deep}
use Rattle.fvn_exploring.specs.declared.ends.Explored.{Explored}
use Rattle.fvn_exploring.specs.declared.ends.ExpandEnd.{ExpandEnd}
use Rattle.fvn_exploring.specs.declared.ends.ExpandEnd.TheVariants.{Whole, Steps, Size, Basis, Unifiers}
use Rattle.fvn_exploring.specs.declared.ends.ExploreEnd.TheVariants.{Complete, Levels, Variants}
use Rattle.fvn_exploring.specs.Ends.{explore_end}
use Rattle.fvn_exploring.specs.Setting.{Setting}
use Rattle.fvn_exploring.specs.Children.{IsMember, IsChild}
use Rattle.fvn_exploring.specs.Expansions.{IsExpandCause}
use Rattle.fvn_exploring.specs.LevelRuns.{IsLevelRun}
use Rattle.fvn_exploring.specs.Explorations.{variants_of, IsBelowLevel, IsOneMore, IsExploreCause, ReachesPast, IsExploration}
use Rattle.fvn_closure.specs.Closing.{IsExplorable, AreClosedBelow}
use Rattle.fvn_closure.specs.Laws.{CoveringsCarryLiftings, LevelRunsAreLawful}
use Rattle.fvn_fold.specs.inner.Gathering.{AreReady, IsNextLevel}
use Rattle.fvn_fold.specs.inner.Running.{at_depth, LevelLists, deep_of, with_next, IsExploredTo, IsEndAtLevels, IsEndOfLast, IsEndFull, IsEndBelow, IsEnded}
use Rattle.fvn_fold.proofs.Gathers.{all_members, member_of_any, any_member}
use Rattle.fvn_fold.proofs.Nexts.{child_member, child_like}
use Rattle.fvn_fold.proofs.Growing.{HasPlace, pairs_front, pairs_mapped, run_grown}
use Rattle.fvn_fold.proofs.Closed.{closed_more, closed_fewer, closed_all, bound, deep_kept, member_deep, closed_next}
use Rattle.fvn_fold.proofs.Ends.{member_cause}
use Rattle.fvn_fold.proofs.Outcomes.{IsOutcome, exploration, pruned_listed}

-- complete only where every expansion was whole
complete_whole : (end : ExpandEnd) → explore_end end ≡ Complete → end ≡ Whole
complete_whole Whole e = refl
complete_whole (Steps from to) e = cc
complete_whole (Size cause) e = cc
complete_whole (Basis f system) e = cc
complete_whole (Unifiers given list) e = cc

-- the end of an expansion is no end of levels
no_levels : (end : ExpandEnd) (v : Variant) → explore_end end ≡ Levels v → ⊥
no_levels Whole v e = cc
no_levels (Steps from to) v e = cc
no_levels (Size cause) v e = cc
no_levels (Basis f system) v e = cc
no_levels (Unifiers given list) v e = cc

module _ (g : Setting) (drawn : Problem → Substitution → Type 0) (start : List FlatTerm) (limits : Limits) (depth : ℕ) (r : LevelLists) (explored : IsExploredTo g drawn start depth r)
    (next : List Variant) (end : ExpandEnd) (h : IsNextLevel g drawn r.kept r.members next end) where
  abbrev d : Declarations
  d = g.declarations

  abbrev run : List Deep
  run = deep_of r depth

  abbrev below : List Variant → List Deep
  below front = map (at_depth (depth + 1)) front

  run_some : 1 ≤ length run
  run_some = let l = ap length explored.kept ∙ length-map run (λ (m : Deep). m.variant) in let s = explored.some in omega (arith, l, s)

  first_of : (list : List Deep) → 1 ≤ length list → (m : Deep) × Contains list m
  first_of [] l = absurd (omega (arith, l))
  first_of (m ∷ list) l = (m, contains_here m list)

  run_bound : (m : Deep) → Contains run m → m.depth ≤ depth
  run_bound = bound g drawn start depth r explored

  place : (w : Variant) → Contains next w → HasPlace g drawn start run depth run_some run_bound w
  place w m =
      let p = member_of_any (λ m. IsChild g drawn m w) r.members (All-contains (λ w. Any (λ m. IsChild g drawn m w) r.members) next w (h.is_next).children m) in
      record {
        parent = at_depth depth p.0;
        listed = member_deep g drawn start depth r explored p.0 p.1.0;
        level = refl;
        child = p.1.1;
        uncovered = subst (λ l. IsCoveredBySome d l w → ⊥) explored.kept (All-contains (λ w. IsCoveredBySome d r.kept w → ⊥) next w (h.is_next).uncovered m);
      }

  -- a run with the front of the next level
  front_run : (front : List Variant) → ((w : Variant) → Contains front w → Contains next w) → IsApart (CoversVariant d) front → IsLevelRun g drawn start (run ++ below front)
  front_run front within apart = run_grown g drawn start run depth run_some run_bound explored.run front (λ w m. place w (within w m)) apart

  below_deep : (front : List Variant) (m : Deep) → Contains (below front) m → m.depth ≡ depth + 1
  below_deep front m i = let v = map_contains (at_depth (depth + 1)) front m i in ap (λ (n : Deep). n.depth) (sym v.1.1)

  all_bound : (front : List Variant) (m : Deep) → Contains (run ++ below front) m → m.depth ≤ depth + 1
  all_bound front m i = go (Contains-append_cases run (below front) m i) where
    go : Contains run m ⊎ Contains (below front) m → m.depth ≤ depth + 1
    go (inl l) = let b = run_bound m l in omega (arith, b)
    go (inr l) = let e = below_deep front m l in omega (arith, e)

  -- levels above this one stay closed
  front_closed : (front : List Variant) → AreClosedBelow g (run ++ below front) depth
  front_closed front = closed_more g run (below front) depth (λ m i. let e = below_deep front m i in omega (arith, e)) explored.closed

  variants_grown : (front : List Variant) → variants_of (run ++ below front) ≡ r.kept ++ front
  variants_grown front = map-append (λ (m : Deep). m.variant) run (below front) ∙ ap (λ l. l ++ map (λ (m : Deep). m.variant) (below front)) (sym explored.kept) ∙ ap (λ l. r.kept ++ l) (same front)
    where
      same : (l : List Variant) → map (λ (m : Deep). m.variant) (map (at_depth (depth + 1)) l) ≡ l
      same [] = refl
      same (v ∷ l) = ap (λ m. v ∷ m) (same l)

  -- of what is kept with the next level none covers a later one
  pub next_folded : AllPairs (λ a b. CoversVariant d a b → ⊥) (r.kept ++ next)
  next_folded =
      let all = run ++ below next in
      let folded = (front_run next (λ w m. m) (h.is_next).apart).folded in
      subst (AllPairs (λ a b. CoversVariant d a b → ⊥)) (variants_grown next)
      (pairs_mapped (λ (m : Deep). m.variant) (λ a b. CoversVariant d a b → ⊥) all (λ i j e l m. (folded i j e l m).0))

  length_grown : (front : List Variant) → length (run ++ below front) ≡ length r.kept + length front
  length_grown front = sym (length-map (run ++ below front) (λ (m : Deep). m.variant)) ∙ ap length (variants_grown front) ∙ length-append r.kept front

  -- the run goes on
  pub goes_on : CoveringsCarryLiftings → end ≡ Whole → IsExploredTo g drawn start (depth + 1) (with_next r depth next)
  goes_on carry whole = record {
    run = front_run next (λ w m. m) (h.is_next).apart;
    closed = closed_next g drawn start depth r explored carry next end h whole;
    above = all_members (λ (m : Deep). m.depth < depth + 1) run (λ m i. let b = run_bound m i in omega (arith, b));
    kept = sym (variants_grown next);
    some = let l = length-append r.kept next in let s = explored.some in omega (arith, l, s);
    ready = record {
      first = ready.first;
      once = ready.once;
      fixed = ready.fixed;
      alike = all_members (λ v. AreAlike ready.first v) (r.kept ++ next) (λ v m. like v (Contains-append_cases r.kept next v m));
      members = all_members (IsMember g) (r.kept ++ next) (λ v m. member v (Contains-append_cases r.kept next v m));
    };
  } where
    ready : AreReady g r.kept
    ready = explored.ready

    child : (v : Variant) → Contains next v → Any (λ m. IsChild g drawn m v) r.members
    child v m = All-contains (λ w. Any (λ m. IsChild g drawn m w) r.members) next v (h.is_next).children m

    listed : (v : Variant) → Contains r.members v → Contains r.kept v
    listed v m = deep_kept g drawn start depth r explored (at_depth depth v) (member_deep g drawn start depth r explored v m)

    like : (v : Variant) → Contains r.kept v ⊎ Contains next v → AreAlike ready.first v
    like v (inl m) = All-contains (λ v. AreAlike ready.first v) r.kept v ready.alike m
    like v (inr m) = child_like g r.kept ready drawn r.members listed v (child v m)

    member : (v : Variant) → Contains r.kept v ⊎ Contains next v → IsMember g v
    member v (inl m) = All-contains (IsMember g) r.kept v ready.members m
    member v (inr m) = child_member g r.kept ready drawn r.members v (child v m)

  module _ (explorable : IsExplorable g start) (laws : LevelRunsAreLawful g drawn) (order : CoveringIsReflexiveAndTransitive) (few : length r.kept ≤ limits.variants) (within : depth ≤ limits.levels) (x : Explored) where
    abbrev Outcome : Type 0
    Outcome = IsOutcome g drawn start explorable laws order limits x

    -- an outcome from what holds of its kept members
    outcome_from : (all : List Deep) → x.kept ≡ all → IsLevelRun g drawn start all → 1 ≤ length all → length all ≤ limits.variants → ((m : Deep) → Contains all m → m.depth ≤ limits.levels) →
        IsPruned d (variants_of all) x.variants → (x.end ≡ Complete → (k : ℕ) → AreClosedBelow g all k) → AreClosedBelow g all depth → ((m : Deep) → Contains all m → m.depth ≤ depth + 1) →
        ((v : Variant) → x.end ≡ Levels v → limits.levels ≤ depth) → IsExploreCause g drawn start limits x x.end → Outcome
    outcome_from all is level_run some many shallow pruned complete closed deep levels cause = record {
      run = subst (IsLevelRun g drawn start) (sym is) level_run;
      some = subst (λ l. (m : Deep) × Contains l m) (sym is) (first_of all some);
      few = subst (λ l. length l ≤ limits.variants) (sym is) many;
      shallow = subst (λ l. (m : Deep) → Contains l m → m.depth ≤ limits.levels) (sym is) shallow;
      pruned = subst (λ l. IsPruned d (variants_of l) x.variants) (sym is) pruned;
      complete = λ e k. subst (λ l. AreClosedBelow g l k) (sym is) (complete e k);
      reach = λ k past. subst (λ l. AreClosedBelow g l k) (sym is) (closed_fewer g all depth k (past_depth k past) closed);
      cause = cause;
    } where
      past_depth : (k : ℕ) → ReachesPast g drawn start limits x k → k ≤ depth
      past_depth k (inl a) =
          let m = member_of_any (λ (m : Deep). k < m.depth) x.kept a in
          let b = deep m.0 (subst (λ l. Contains l m.0) is m.1.0) in
          let c : k < (m.0).depth = m.1.1 in
          omega (arith, b, c)
      past_depth k (inr w) = let l = levels w.0 w.1 in let e = w.2 in omega (arith, l, e)

    few_run : length run ≤ limits.variants
    few_run = let l = ap length explored.kept ∙ length-map run (λ (m : Deep). m.variant) in omega (arith, l, few)

    shallow_run : (m : Deep) → Contains run m → m.depth ≤ limits.levels
    shallow_run m i = let b = run_bound m i in omega (arith, b, within)

    deep_run : (m : Deep) → Contains run m → m.depth ≤ depth + 1
    deep_run m i = let b = run_bound m i in omega (arith, b)

    -- one member's end
    end_cause : (all : List Deep) → x.kept ≡ all → ((m : Deep) → Contains run m → Contains all m) → (end ≡ Whole) ⊎ Any (λ m. IsExpandCause g drawn m end) r.members → IsExploreCause g drawn start limits x (explore_end end)
    end_cause all is wider (inl e) = subst (λ o. IsExploreCause g drawn start limits x (explore_end o)) (sym e) tt
    end_cause all is wider (inr a) =
        let m = member_of_any (λ m. IsExpandCause g drawn m end) r.members a in
        member_cause g drawn start all (at_depth depth m.0) (wider (at_depth depth m.0) (member_deep g drawn start depth r explored m.0 m.1.0)) limits x is end m.1.1

    -- a next variant below the last level
    at_levels : IsEndAtLevels d limits r depth next x → Outcome
    at_levels e =
        outcome_from run e.kept explored.run run_some few_run shallow_run pruned
        (λ c. absurd (other c)) explored.closed deep_run (λ v l. omega (arith, e.last))
        (subst (IsExploreCause g drawn start limits x) (sym e.is_end) below_level)
      where
        pruned : IsPruned d (variants_of run) x.variants
        pruned = subst (λ l. IsPruned d l x.variants) explored.kept e.pruned

        other : x.end ≡ Complete → ⊥
        other c = let l : Levels e.variant ≡ Complete = sym e.is_end ∙ c in cc

        p : HasPlace g drawn start run depth run_some run_bound e.variant
        p = place e.variant e.listed

        below_level : IsBelowLevel g drawn start limits.levels x e.variant
        below_level = record {
          parent = p.parent;
          listed = subst (λ l. Contains l p.parent) (sym e.kept) p.listed;
          depth = p.level ∙ e.last;
          child = p.child;
          kept = subst (λ l. IsCoveredBySome d (variants_of l) e.variant → ⊥) (sym e.kept) p.uncovered;
          given = λ c.
              let w = member_of_any (λ k. CoversVariant d k e.variant) x.variants c in
              p.uncovered (any_member (λ k. CoversVariant d k e.variant) (variants_of run) w.0 (pruned_listed d (variants_of run) x.variants pruned w.0 w.1.0) w.1.1);
        }

    -- without a next one at the last level
    of_last : CoveringsCarryLiftings → IsEndOfLast d limits r depth next end x → Outcome
    of_last carry e =
        outcome_from run e.kept explored.run run_some few_run shallow_run (subst (λ l. IsPruned d l x.variants) explored.kept e.pruned)
        complete explored.closed deep_run (λ v l. omega (arith, e.last))
        (subst (IsExploreCause g drawn start limits x) (sym e.is_end) (end_cause run e.kept (λ m i. i) h.cause))
      where
        complete : x.end ≡ Complete → (k : ℕ) → AreClosedBelow g run k
        complete c =
            let whole = complete_whole end (sym e.is_end ∙ c) in
            let same : run ++ below next ≡ run = ap (λ l. run ++ below l) e.none ∙ append-nil run in
            closed_all g run depth run_bound (subst (λ l. AreClosedBelow g l (depth + 1)) same (closed_next g drawn start depth r explored carry next end h whole))

    -- more next variants than may be kept
    of_full : IsEndFull d limits r depth next x → Outcome
    of_full e =
        outcome_from (run ++ below e.front) e.kept (front_run e.front in_front front_apart)
        (let l = length-append run (below e.front) in let s = run_some in omega (arith, l, s))
        (let l = length_grown e.front in let f = e.full in omega (arith, l, f))
        (λ m i. let b = all_bound e.front m i in let l = e.more_levels in omega (arith, b, l))
        (subst (λ l. IsPruned d l x.variants) (sym (variants_grown e.front)) e.pruned)
        (λ c. absurd (other c)) (front_closed e.front) (all_bound e.front) (λ v l. absurd (no_level v l))
        (subst (IsExploreCause g drawn start limits x) (sym e.is_end) one_more)
      where
        split : e.front ++ e.variant ∷ e.back ≡ next
        split = sym e.split

        in_front : (w : Variant) → Contains e.front w → Contains next w
        in_front w m = subst (λ l. Contains l w) split (Contains-append_left e.front (e.variant ∷ e.back) w m)

        whole_apart : IsApart (CoversVariant d) ((e.front ++ e.variant ∷ []) ++ e.back)
        whole_apart = subst (IsApart (CoversVariant d)) (e.split ∙ sym (append_assoc e.front (e.variant ∷ []) e.back)) (h.is_next).apart

        with_apart : IsApart (CoversVariant d) (e.front ++ e.variant ∷ [])
        with_apart = pairs_front (λ s c. (CoversVariant d s c → ⊥) × (CoversVariant d c s → ⊥)) (e.front ++ e.variant ∷ []) e.back whole_apart

        front_apart : IsApart (CoversVariant d) e.front
        front_apart = pairs_front (λ s c. (CoversVariant d s c → ⊥) × (CoversVariant d c s → ⊥)) e.front (e.variant ∷ []) with_apart

        in_with : (w : Variant) → Contains (e.front ++ e.variant ∷ []) w → Contains next w
        in_with w m = subst (λ l. Contains l w) (append_assoc e.front (e.variant ∷ []) e.back ∙ split) (Contains-append_left (e.front ++ e.variant ∷ []) e.back w m)

        other : x.end ≡ Complete → ⊥
        other c = let l : Variants e.variant ≡ Complete = sym e.is_end ∙ c in cc

        no_level : (v : Variant) → x.end ≡ Levels v → ⊥
        no_level v c = let l : Variants e.variant ≡ Levels v = sym e.is_end ∙ c in cc

        one_more : IsOneMore g drawn start limits.variants x.kept e.variant
        one_more = record {
          full = ap length e.kept ∙ length_grown e.front ∙ e.full;
          depth = depth + 1;
          run = subst (λ l. IsLevelRun g drawn start (l ++ at_depth (depth + 1) e.variant ∷ [])) (sym e.kept)
              (subst (IsLevelRun g drawn start) (ap (λ l. run ++ l) (map-append (at_depth (depth + 1)) e.front (e.variant ∷ [])) ∙ sym (append_assoc run (below e.front) (at_depth (depth + 1) e.variant ∷ [])))
              (front_run (e.front ++ e.variant ∷ []) in_with with_apart));
        }

    -- the last level that is kept
    of_below : CoveringsCarryLiftings → IsEndBelow d limits r depth next end x → Outcome
    of_below carry e =
        outcome_from (run ++ below next) e.kept (front_run next (λ w m. m) (h.is_next).apart)
        (let l = length-append run (below next) in let s = run_some in omega (arith, l, s))
        (let l = length_grown next in let f = e.few in omega (arith, l, f))
        (λ m i. let b = all_bound next m i in let l = e.more_levels in omega (arith, b, l))
        (subst (λ l. IsPruned d l x.variants) (sym (variants_grown next)) e.pruned)
        complete (front_closed next) (all_bound next) (λ v l. absurd (no_levels end v (sym e.is_end ∙ l)))
        (subst (IsExploreCause g drawn start limits x) (sym e.is_end) (end_cause (run ++ below next) e.kept (λ m i. Contains-append_left run (below next) m i) h.cause))
      where
        none : (end ≡ Whole → ⊥) ⊎ (next ≡ []) → end ≡ Whole → next ≡ []
        none (inl n) w = absurd (n w)
        none (inr n) w = n

        complete : x.end ≡ Complete → (k : ℕ) → AreClosedBelow g (run ++ below next) k
        complete c =
            let whole = complete_whole end (sym e.is_end ∙ c) in
            let same : run ++ below next ≡ run = ap (λ l. run ++ below l) (none e.over whole) ∙ append-nil run in
            closed_all g (run ++ below next) depth (λ m i. run_bound m (subst (λ l. Contains l m) same i)) (closed_next g drawn start depth r explored carry next end h whole)

    pub ended_outcome : CoveringsCarryLiftings → IsEnded d limits r depth next end x → IsExploration g drawn start limits x
    ended_outcome carry (inl (inl e)) = exploration g drawn start explorable laws order limits x (at_levels e)
    ended_outcome carry (inl (inr e)) = exploration g drawn start explorable laws order limits x (of_last carry e)
    ended_outcome carry (inr (inl e)) = exploration g drawn start explorable laws order limits x (of_full e)
    ended_outcome carry (inr (inr e)) = exploration g drawn start explorable laws order limits x (of_below carry e)
