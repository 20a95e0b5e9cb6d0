-- What the levels of the search keep: each minimal solution is found, or stands above a vector to go on from, at the end of a trail.
use Rattle.std.proofs.Common.{◌≡◌, ◌≢◌, ◌↔◌, ℕ, ◌+◌, ◌-◌, ◌*◌, ◌<◌, ◌≤◌, ◌^◌, ◌⊎◌, ℤ, pos, ◌+ℤ◌, List, [], ◌∷◌, length, get_or, sum, refl, sym, ap, ◌∙◌, subst, inl, inr, arith}
use Rattle.std.specs.List.{All, AllPairs, Contains}
use Rattle.std.proofs.lemmas.List.Elements.{All-contains, Contains-get_or}
use Rattle.std.proofs.lemmas.Bool.{cases_lt}
use Rattle.fvn_lindio.specs.inner.Least.{HasOther, IsLeast, IsUniform}
use Rattle.fvn_lindio.specs.Vectors.{IsAtOrBelow, IsNonZero, add}
use Rattle.fvn_lindio.specs.Systems.{above, below, up, down, Solves, IsMinimal}
use Rattle.fvn_lindio.specs.inner.Search.{IsValue}
use Rattle.fvn_lindio.specs.inner.Levels.{CanAdd, IsCovered, GrowsAnew, IsThis, IsAt, IsStepBy, IsStepFrom, CoversStepsFrom, IsPoint, Generates}
use Rattle.fvn_lindio.specs.declared.level.Point.{Point}
use Rattle.fvn_lindio.specs.declared.level.Level.{Level}
use Rattle.fvn_lindio.proofs.VectorLemmas.{sum-add, sides-add, below_refl, below_trans, below_sum, below_same, below_add}
use Rattle.fvn_lindio.proofs.ValueLemmas.{above-add}
use Rattle.fvn_lindio.proofs.Solving.{Lies-add, minimal_below}
use Rattle.fvn_base.proofs.Pigeonhole.{length-le_below, AllPairs-cons, contains_each}
use Rattle.fvn_lindio.proofs.LevelLemmas.{in_none}
use Rattle.fvn_lindio.proofs.SearchLemmas.{all, Space, Solves-from_space, space_from_solves, rest_of, step_towards, opposite_bounds, All_add}

module _ (columns : ℕ) (before : List (List ℤ)) (row : List ℤ) (gs : List Point) (low high : ℕ) where
  abbrev pub Minimal : List ℕ → Type 0
  Minimal s = IsMinimal columns (all columns before row) s

  -- at some vector of the space at or below x the row has a value, counted from the lowest
  pub record Passes (x : List ℕ) (height : ℕ) : Type 0 where
    pub at : List ℕ
    pub under : IsAtOrBelow at x
    pub lies : Space columns before row at
    pub nonzero : IsNonZero at
    pub exact : height + down row at ≡ up row at + low
    pub within : height < low + high + 1

  -- x has been reached through so many different values
  pub record Trail (t : ℕ) (x : List ℕ) : Type 0 where
    pub heights : List ℕ
    pub count : length heights ≡ t
    pub apart : AllPairs ◌≢◌ heights
    pub passed : (h : ℕ) → Contains heights h → Passes x h

  pub record GoesOn (t : ℕ) (level : Level) (s : List ℕ) : Type 0 where
    pub point : Point
    pub member : Contains level.ahead.items point
    pub under : IsAtOrBelow point.parts.items s
    pub trail : Trail t point.parts.items

  abbrev pub IsFound : Level → List ℕ → Type 0
  IsFound level s = (f : Point) × Contains level.found.items f × (f.parts.items ≡ s)

  pub record IsOnTheWay (t : ℕ) (p : Point) : Type 0 where
    pub point : IsPoint columns before row p
    pub nonzero : p.value ≢ pos 0
    pub rises : above p.value ≤ high
    pub falls : below p.value ≤ low
    pub small : All (λ a. a ≤ t * 65535) p.parts.items

  pub record LevelAt (t : ℕ) (level : Level) : Type 0 where
    pub found : (p : Point) → Contains level.found.items p → IsPoint columns before row p × (p.value ≡ pos 0)
    pub ahead : (p : Point) → Contains level.ahead.items p → IsOnTheWay t p
    pub complete : (s : List ℕ) → Minimal s → IsFound level s ⊎ GoesOn t level s

  pub record Bounded : Type 0 where
    pub generates : Generates columns before row gs
    pub rises : (g : Point) → Contains gs g → above g.value ≤ high
    pub falls : (g : Point) → Contains gs g → below g.value ≤ low

  -- a point with value zero is a solution
  pub solution_at : (p : Point) → IsPoint columns before row p → p.value ≡ pos 0 → Solves columns (all columns before row) p.parts.items
  solution_at p h z =
      let a : above p.value ≡ 0 = ap above z in
      let b : below p.value ≡ 0 = ap below z in
      Solves-from_space columns before row p.parts.items h.lies (omega (arith, h.exact, a, b))

  -- a point with value zero at or below a minimal solution is that solution
  pub found_is_it : (s : List ℕ) (f : Point) → Minimal s → IsPoint columns before row f → f.value ≡ pos 0 → IsAtOrBelow f.parts.items s → f.parts.items ≡ s
  found_is_it s f m p z l = m.least f.parts.items (solution_at f p z) p.nonzero l

  -- two vectors of one value, one of them at or below the other and below a minimal solution, would leave a solution below it
  values_apart : (s x y : List ℕ) → Minimal s → Space columns before row x → Space columns before row y → IsNonZero y → IsAtOrBelow y x → IsAtOrBelow x s → sum y < sum x → up row x + down row y ≡ up row y + down row x → ⊥
  values_apart s x y m h k n l u less e =
      let rest = rest_of columns before row y x k h l in
      let solves = Solves-from_space columns before row rest.vector rest.lies (omega (arith, rest.ups, rest.downs, e)) in
      let under : IsAtOrBelow rest.vector s = below_trans rest.vector x s rest.under u in
      let same : rest.vector ≡ s = m.least rest.vector solves (omega (arith, rest.sums, less)) under in
      omega (arith, ap sum same, rest.sums, n, below_sum x s u)

  -- the height of a point's value
  height : Point → ℕ
  height p = low + above p.value - below p.value

  height-exact : (p : Point) → IsPoint columns before row p → below p.value ≤ low → height p + down row p.parts.items ≡ up row p.parts.items + low
  unfolding height
  height-exact p h l = omega (arith, h.exact, l)

  height-within : (p : Point) → above p.value ≤ high → height p < low + high + 1
  unfolding height
  height-within p h = omega (arith, h)

  passes_itself : (t : ℕ) (p : Point) → IsOnTheWay t p → Passes p.parts.items (height p)
  passes_itself t p h =
      record {
        at = p.parts.items;
        under = below_refl p.parts.items;
        lies = h.point.lies;
        nonzero = h.point.nonzero;
        exact = height-exact p h.point h.falls;
        within = height-within p h.rises;
      }

  passes_above : (x y : List ℕ) (h : ℕ) → IsAtOrBelow x y → Passes x h → Passes y h
  passes_above x y h l p =
      record { at = p.at; under = below_trans p.at x y p.under l; lies = p.lies; nonzero = p.nonzero; exact = p.exact; within = p.within }

  trail_one : (t : ℕ) (p : Point) → IsOnTheWay t p → Trail 1 p.parts.items
  trail_one t p h =
      record {
        heights = height p ∷ [];
        count = refl;
        apart = λ i j d l m. absurd (omega (arith, l, m));
        passed = contains_each (Passes p.parts.items) (height p) [] (passes_itself t p h) (λ y k. absurd (in_none [] y refl k));
      }

  -- one step on, to a point that is above, the value is a new one
  trail_more : (t u : ℕ) (s : List ℕ) (p q : Point) → Minimal s → IsOnTheWay u q → IsAtOrBelow p.parts.items q.parts.items → sum p.parts.items < sum q.parts.items → IsAtOrBelow q.parts.items s → Trail t p.parts.items → Trail (t + 1) q.parts.items
  trail_more t u s p q m h l less under trail =
      record {
        heights = height q ∷ trail.heights;
        count = omega (arith, trail.count);
        apart = AllPairs-cons (height q) trail.heights trail.apart fresh;
        passed = contains_each (Passes q.parts.items) (height q) trail.heights (passes_itself u q h) (λ y k. passes_above p.parts.items q.parts.items y l (trail.passed y k));
      }
    where
      fresh : (y : ℕ) → Contains trail.heights y → height q ≡ y → ⊥
      fresh y k e =
          let passed = trail.passed y k in
          values_apart s q.parts.items passed.at m h.point.lies passed.lies passed.nonzero (below_trans passed.at p.parts.items q.parts.items passed.under l) under (omega (arith, below_sum passed.at p.parts.items passed.under, less)) (omega (arith, height-exact q h.point h.falls, passed.exact, e))

  -- no trail is longer than there are values
  pub trail_short : (t : ℕ) (x : List ℕ) → Trail t x → t ≤ low + high + 1
  trail_short t x h = omega (arith, h.count, length-le_below h.heights (low + high + 1) h.apart (λ y k. (h.passed y k).within))

  module _ (bounded : Bounded) where
    -- a step gives a point with the value that it says
    point_step : (x g p : Point) → IsPoint columns before row x → IsPoint columns before row g → IsStepBy x g p → IsPoint columns before row p
    point_step x g p h k step =
        record {
          lies = subst (Space columns before row) (sym parts) (Lies-add x.parts.items g.parts.items h.lies k.lies);
          nonzero = omega (arith, ap sum parts, sum-add x.parts.items g.parts.items e, h.nonzero);
          exact = omega (arith, ap (up row) parts, ap (down row) parts, sides.0, sides.1, h.exact, k.exact, ap above step.2, ap below step.2, above-add x.value g.value);
        }
      where
        parts : p.parts.items ≡ add x.parts.items g.parts.items
        parts = step.1

        e : length x.parts.items ≡ length g.parts.items
        e = h.lies.sized ∙ sym k.lies.sized

        sides : (up row (add x.parts.items g.parts.items) ≡ up row x.parts.items + up row g.parts.items) × (down row (add x.parts.items g.parts.items) ≡ down row x.parts.items + down row g.parts.items)
        sides = sides-add row x.parts.items g.parts.items e

    way_step : (t : ℕ) (x g p : Point) → IsOnTheWay t x → Contains gs g → IsStepBy x g p → p.value ≢ pos 0 → IsOnTheWay (t + 1) p
    way_step t x g p h k step n =
        record {
          point = point_step x g p h.point gp step;
          nonzero = n;
          rises = omega (arith, bounds.0, ap above step.2);
          falls = omega (arith, bounds.1, ap below step.2);
          small = subst (λ m. All (λ a. a ≤ m) p.parts.items) sizes (subst (All (λ a. a ≤ t * 65535 + 65535)) (sym parts) (All_add (t * 65535) 65535 x.parts.items g.parts.items e h.small (bounded.generates.narrow g k)));
        }
      where
        gp : IsPoint columns before row g
        gp = bounded.generates.points g k

        parts : p.parts.items ≡ add x.parts.items g.parts.items
        parts = step.1

        e : length x.parts.items ≡ length g.parts.items
        e = h.point.lies.sized ∙ sym gp.lies.sized

        sizes : t * 65535 + 65535 ≡ (t + 1) * 65535
        sizes = omega arith

        bounds : (above (x.value +ℤ g.value) ≤ high) × (below (x.value +ℤ g.value) ≤ low)
        bounds = opposite_bounds x.value g.value high low step.0 h.rises h.falls (bounded.rises g k) (bounded.falls g k)

    same_point : (g p : Point) → IsPoint columns before row g → IsThis g p → IsPoint columns before row p
    same_point g p h same =
        let parts : g.parts.items ≡ p.parts.items = sym same.0 in
        let value : g.value ≡ p.value = sym same.1 in
        record {
          lies = subst (Space columns before row) parts h.lies;
          nonzero = subst IsNonZero parts h.nonzero;
          exact = subst (λ (v : ℤ). IsValue row p.parts.items v) value (subst (λ x. IsValue row x g.value) parts h.exact);
        }

    pub level_first : (level : Level) → ((p : Point) → Contains level.found.items p → IsAt gs p × (p.value ≡ pos 0)) → ((p : Point) → Contains level.ahead.items p → IsAt gs p × (p.value ≢ pos 0)) → ((g : Point) → Contains gs g → IsCovered level g.parts.items) → LevelAt 1 level
    level_first level found ahead covered =
        record {
          found = λ p h. let f = found p h in (same_point f.0.0 p (bounded.generates.points f.0.0 f.0.1) f.0.2, f.1);
          ahead = way;
          complete = complete;
        }
      where
        way : (p : Point) → Contains level.ahead.items p → IsOnTheWay 1 p
        way p h =
            let f = ahead p h in
            let g = f.0.0 in
            let parts : g.parts.items ≡ p.parts.items = sym f.0.2.0 in
            let value : p.value ≡ g.value = f.0.2.1 in
            record {
              point = same_point g p (bounded.generates.points g f.0.1) f.0.2;
              nonzero = f.1;
              rises = omega (arith, ap above value, bounded.rises g f.0.1);
              falls = omega (arith, ap below value, bounded.falls g f.0.1);
              small = subst (All (λ a. a ≤ 65535)) parts (bounded.generates.narrow g f.0.1);
            }

        complete : (s : List ℕ) → Minimal s → IsFound level s ⊎ GoesOn 1 level s
        complete s m = go (covered under.0 under.1)
          where
            under : (g : Point) × Contains gs g × IsAtOrBelow g.parts.items s
            under = bounded.generates.under s (space_from_solves columns before row s m.solves).0 m.nonzero

            go : IsCovered level under.0.parts.items → IsFound level s ⊎ GoesOn 1 level s
            go (inl h) =
                let f = found h.0 h.1 in
                inl (h.0, h.1, found_is_it s h.0 m (same_point f.0.0 h.0 (bounded.generates.points f.0.0 f.0.1) f.0.2) f.1 (below_trans h.0.parts.items under.0.parts.items s h.2 under.2))
            go (inr h) =
                inr record {
                  point = h.0;
                  member = h.1;
                  under = subst (λ x. IsAtOrBelow x s) (sym h.2) under.2;
                  trail = trail_one 1 h.0 (way h.0 h.1);
                }

    pub level_next : (t : ℕ) (old new : Level) → LevelAt t old → GrowsAnew (IsStepFrom gs old.ahead.items) old new → CoversStepsFrom gs old.ahead.items new → LevelAt (t + 1) new
    level_next t old new at grows covered =
        record {
          found = found;
          ahead = way;
          complete = complete;
        }
      where
        found : (p : Point) → Contains new.found.items p → IsPoint columns before row p × (p.value ≡ pos 0)
        found p h = go (grows.found_is p h)
          where
            go : Contains old.found.items p ⊎ IsStepFrom gs old.ahead.items p × (p.value ≡ pos 0) → IsPoint columns before row p × (p.value ≡ pos 0)
            go (inl k) = at.found p k
            go (inr (from, z)) = (point_step from.0 from.2.0 p (at.ahead from.0 from.1).point (bounded.generates.points from.2.0 from.2.1) from.2.2, z)

        way : (p : Point) → Contains new.ahead.items p → IsOnTheWay (t + 1) p
        way p h =
            let from = grows.ahead_is p h in
            way_step t from.0.0 from.0.2.0 p (at.ahead from.0.0 from.0.1) from.0.2.1 from.0.2.2 from.1

        complete : (s : List ℕ) → Minimal s → IsFound new s ⊎ GoesOn (t + 1) new s
        complete s m = go (at.complete s m)
          where
            further : (p : Point) → Contains old.ahead.items p → IsAtOrBelow p.parts.items s → Trail t p.parts.items → (g : Point) → Contains gs g → IsAtOrBelow (add p.parts.items g.parts.items) s → IsCovered new (add p.parts.items g.parts.items) → IsFound new s ⊎ GoesOn (t + 1) new s
            further p h under trail g k l (inl f) =
                let point = found f.0 f.1 in
                inl (f.0, f.1, found_is_it s f.0 m point.0 point.1 (below_trans f.0.parts.items (add p.parts.items g.parts.items) s f.2 l))
            further p h under trail g k l (inr q) =
                let e : length p.parts.items ≡ length g.parts.items = (at.ahead p h).point.lies.sized ∙ sym (bounded.generates.points g k).lies.sized in
                let parts : add p.parts.items g.parts.items ≡ q.0.parts.items = sym q.2 in
                let rest : IsAtOrBelow q.0.parts.items s = subst (λ x. IsAtOrBelow x s) parts l in
                inr record {
                  point = q.0;
                  member = q.1;
                  under = rest;
                  trail =
                      trail_more t (t + 1) s p q.0 m (way q.0 q.1) (subst (IsAtOrBelow p.parts.items) parts (below_add p.parts.items g.parts.items e))
                      (omega (arith, ap sum parts, sum-add p.parts.items g.parts.items e, (bounded.generates.points g k).nonzero)) rest trail;
                }

            go : IsFound old s ⊎ GoesOn t old s → IsFound new s ⊎ GoesOn (t + 1) new s
            go (inl f) = inl (f.0, grows.found_stays f.0 f.1, f.2)
            go (inr goes) =
                let p = goes.point in
                let way_p = at.ahead p goes.member in
                let r = step_towards columns before row gs bounded.generates s p m.solves way_p.point way_p.nonzero goes.under in
                further p goes.member goes.under goes.trail r.0 r.1 r.3 (covered p goes.member r.0 r.1 r.2)

  -- where the level is beyond every trail, or nothing is ahead, each minimal solution is found
  pub all_found : (t : ℕ) (level : Level) → LevelAt t level → (low + high + 1 < t) ⊎ (level.ahead.items ≡ []) → (s : List ℕ) → Minimal s → IsFound level s
  all_found t level at done s m = go done (at.complete s m)
    where
      go : (low + high + 1 < t) ⊎ (level.ahead.items ≡ []) → IsFound level s ⊎ GoesOn t level s → IsFound level s
      go done (inl f) = f
      go (inl l) (inr goes) = absurd (omega (arith, l, trail_short t goes.point.parts.items goes.trail))
      go (inr e) (inr goes) = absurd (in_none level.ahead.items goes.point e goes.member)

  -- vectors ahead are far from the greatest number
  pub can_add : (t : ℕ) (level : Level) → Bounded → LevelAt t level → t ≤ 2 ^ 44 → All (λ x. All (CanAdd x) gs) level.ahead.items
  can_add t level bounded at l i d k j e m =
      let x = get_or level.ahead.items i d in
      let g = get_or gs j e in
      let way = at.ahead x (Contains-get_or level.ahead.items i d k) in
      let h : Contains gs g = Contains-get_or gs j e m in
      record {
        sized = way.point.lies.sized ∙ sym (bounded.generates.points g h).lies.sized;
        room = λ n f b. omega (arith, way.small n f b, l);
        more_room = λ n f b. omega (arith, bounded.generates.narrow g h n f b);
      }

-- what the loop over levels keeps
pub record Going (columns : ℕ) (before : List (List ℤ)) (row : List ℤ) (gs : List Point) (turn last : ℕ) (level : Level) : Type 0 where
  pub low : ℕ
  pub high : ℕ
  pub bounded : Bounded columns before row gs low high
  pub bound : low + high + 1 ≡ last
  pub room : last ≤ 2 ^ 43
  pub at : LevelAt columns before row gs low high (turn + 1) level

module _ {columns : ℕ} {before : List (List ℤ)} {row : List ℤ} {gs : List Point} where
  pub going_first : (low high : ℕ) (level : Level) → Generates columns before row gs → All (λ p. below p.value ≤ low) gs → All (λ p. above p.value ≤ high) gs → low ≤ 2 ^ 42 → high < 2 ^ 42 → ((p : Point) → Contains level.found.items p → IsAt gs p × (p.value ≡ pos 0)) → ((p : Point) → Contains level.ahead.items p → IsAt gs p × (p.value ≢ pos 0)) → ((g : Point) → Contains gs g → IsCovered level g.parts.items) → Going columns before row gs 0 (low + high + 1) level
  going_first low high level g falls rises l m found ahead covered =
      let bounded : Bounded columns before row gs low high = record { generates = g; rises = λ p h. All-contains (λ q. above q.value ≤ high) gs p rises h; falls = λ p h. All-contains (λ q. below q.value ≤ low) gs p falls h } in
      record { low = low; high = high; bounded = bounded; bound = refl; room = omega arith; at = level_first columns before row gs low high bounded level found ahead covered }

  module _ {turn last : ℕ} {level : Level} (going : Going columns before row gs turn last level) where
    pub going_more : (new : Level) → GrowsAnew (IsStepFrom gs level.ahead.items) level new → CoversStepsFrom gs level.ahead.items new → Going columns before row gs (turn + 1) last new
    going_more new grows covered =
        record { low = going.low; high = going.high; bounded = going.bounded; bound = going.bound; room = going.room; at = level_next columns before row gs going.low going.high going.bounded (turn + 1) level new going.at grows covered }

    pub going_can_add : turn < last → All (λ x. All (CanAdd x) gs) level.ahead.items
    going_can_add h = can_add columns before row gs going.low going.high (turn + 1) level going.bounded going.at (omega (arith, going.room, h))

    pub going_uniform : IsUniform level.found.items
    going_uniform p q h k = (going.at.found p h).0.lies.sized ∙ sym (going.at.found q k).0.lies.sized

    pub going_all : (last ≤ turn) ⊎ (level.ahead.items ≡ []) → (s : List ℕ) → IsMinimal columns (all columns before row) s → (f : Point) × Contains level.found.items f × (f.parts.items ≡ s)
    going_all done = all_found columns before row gs going.low going.high (turn + 1) level going.at (beyond done)
      where
        beyond : (last ≤ turn) ⊎ (level.ahead.items ≡ []) → (going.low + going.high + 1 < turn + 1) ⊎ (level.ahead.items ≡ [])
        beyond (inl h) = inl (omega (arith, going.bound, h))
        beyond (inr e) = inr e

    -- the least of the vectors found are the minimal solutions
    pub going_exact : (last ≤ turn) ⊎ (level.ahead.items ≡ []) → (v : List ℕ) → IsLeast level.found.items v ↔ IsMinimal columns (all columns before row) v
    going_exact done v = (from, into)
      where
        minimal : (p : Point) → Contains level.found.items p → (HasOther level.found.items p.parts.items → ⊥) → IsMinimal columns (all columns before row) p.parts.items
        minimal p h none = go (cases_lt (sum m.0) (sum p.parts.items))
          where
            point : IsPoint columns before row p × (p.value ≡ pos 0)
            point = going.at.found p h

            m : (m : List ℕ) × IsMinimal columns (all columns before row) m × IsAtOrBelow m p.parts.items
            m = minimal_below columns (all columns before row) (sum p.parts.items) p.parts.items (omega arith) (solution_at columns before row gs going.low going.high p point.0 point.1) point.0.nonzero

            go : (sum m.0 < sum p.parts.items) ⊎ (sum p.parts.items ≤ sum m.0) → IsMinimal columns (all columns before row) p.parts.items
            go (inr l) = subst (IsMinimal columns (all columns before row)) (below_same m.0 p.parts.items m.2 l) m.1
            go (inl l) =
                let f = going_all done m.0 m.1 in
                absurd (none (f.0, f.1, subst (λ z. IsAtOrBelow z p.parts.items) (sym f.2) m.2, λ e. let s : sum m.0 ≡ sum p.parts.items = ap sum (sym f.2 ∙ e) in omega (arith, s, l)))

        from : IsLeast level.found.items v → IsMinimal columns (all columns before row) v
        from (h, none) = subst (IsMinimal columns (all columns before row)) h.2 (minimal h.0 h.1 (subst (λ z. HasOther level.found.items z → ⊥) (sym h.2) none))

        into : IsMinimal columns (all columns before row) v → IsLeast level.found.items v
        into m = (going_all done v m, λ other. let point = going.at.found other.0 other.1 in other.3 (found_is_it columns before row gs going.low going.high v other.0 m point.0 point.1 other.2))
