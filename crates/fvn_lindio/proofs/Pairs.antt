-- Where values are at most one from zero and all points on one side are units, the minimal solutions are the points at zero and the sums of two on opposite sides.
use Rattle.std.proofs.Common.{◌≡◌, ◌≢◌, ◌↔◌, ℕ, ◌<◌, ◌≤◌, ◌⊎◌, ℤ, pos, List, length, get_or, sum, sym, ap, ◌∙◌, subst, inl, inr, arith}
use Rattle.std.specs.List.{All, Contains}
use Rattle.std.proofs.lemmas.List.Elements.{All-contains, Contains-get_or}
use Rattle.std.proofs.lemmas.Bool.{cases_lt}
use Rattle.fvn_lindio.specs.Vectors.{IsAtOrBelow, IsNonZero, add}
use Rattle.fvn_lindio.specs.Systems.{above, below, up, down, Solves, IsMinimal}
use Rattle.fvn_lindio.specs.inner.Search.{IsOpposite}
use Rattle.fvn_lindio.specs.inner.Levels.{CanAdd, Generates}
use Rattle.fvn_lindio.specs.inner.Least.{IsUniform}
use Rattle.fvn_lindio.specs.inner.Paired.{AnyOf, ArePaired, IsFrom, IsPlain}
use Rattle.fvn_lindio.specs.declared.level.Point.{Point}
use Rattle.fvn_lindio.specs.declared.paired.Sign.TheVariants.{Positive, Negative}
use Rattle.fvn_lindio.proofs.VectorLemmas.{sum-add, sides-add, below_trans, below_sum, below_same, below_add}
use Rattle.fvn_lindio.proofs.ValueLemmas.{one_side, zero-both}
use Rattle.fvn_lindio.proofs.Solving.{Lies-add, minimal_below}
use Rattle.fvn_lindio.proofs.SearchLemmas.{all, Solves-from_space, space_from_solves, step_towards, below_add_right}
use Rattle.fvn_lindio.proofs.PairLemmas.{add_comm, below_cancel, unit_rest}

module _ {columns : ℕ} {before : List (List ℤ)} {row : List ℤ} {gs : List Point} (generates : Generates columns before row gs) where
  sized : (p q : Point) → Contains gs p → Contains gs q → length p.parts.items ≡ length q.parts.items
  sized p q m n = (generates.points p m).lies.sized ∙ sym (generates.points q n).lies.sized

  pub pairs_uniform : IsUniform gs
  pairs_uniform p q m n = sized p q m n

  pub pairs_can_add : All (λ x. All (CanAdd x) gs) gs
  pairs_can_add i d k j e m =
      let x = get_or gs i d in
      let g = get_or gs j e in
      let h : Contains gs x = Contains-get_or gs i d k in
      let l : Contains gs g = Contains-get_or gs j e m in
      record {
        sized = sized x g h l;
        room = λ n f b. omega (arith, generates.narrow x h n f b);
        more_room = λ n f b. omega (arith, generates.narrow g l n f b);
      }

  -- points with values on different sides are different vectors
  falling_apart : (b p : Point) → Contains gs b → Contains gs p → 0 < below b.value → below p.value ≤ 0 → b.parts.items ≡ p.parts.items → ⊥
  falling_apart b p m n h k e = omega (arith, (generates.points b m).exact, (generates.points p n).exact, ap (up row) e, ap (down row) e, one_side b.value, h, k)

  rising_apart : (b p : Point) → Contains gs b → Contains gs p → 0 < above b.value → above p.value ≤ 0 → b.parts.items ≡ p.parts.items → ⊥
  rising_apart b p m n h k e = omega (arith, (generates.points b m).exact, (generates.points p n).exact, ap (up row) e, ap (down row) e, one_side b.value, h, k)

  -- a point at or below the sum of one with a unit that it is not is the first of these
  first_of : (a b p : Point) → Contains gs a → Contains gs b → Contains gs p → sum b.parts.items ≡ 1 → (b.parts.items ≡ p.parts.items → ⊥) → IsAtOrBelow p.parts.items (add a.parts.items b.parts.items) → p.parts.items ≡ a.parts.items
  first_of a b p m n k s other l =
      let at = generates.points p k in
      let unit = generates.points b n in
      generates.least a m p.parts.items at.lies at.nonzero (unit_rest a.parts.items b.parts.items p.parts.items s (sized a b m n) (λ u. other (generates.least p k b.parts.items unit.lies unit.nonzero u)) l)

  module _ (paired : ArePaired gs) where
    small : (p : Point) → Contains gs p → (above p.value ≤ 1) × (below p.value ≤ 1)
    small p m = go paired
      where
        go : ArePaired gs → (above p.value ≤ 1) × (below p.value ≤ 1)
        go (inl h) = let q = All-contains (IsPlain Positive) gs p h m in (q.highest, q.lowest)
        go (inr h) = let q = All-contains (IsPlain Negative) gs p h m in (q.highest, q.lowest)

    -- ---- sums are solutions

    sum_nonzero : (x u : Point) → Contains gs x → Contains gs u → IsNonZero (add x.parts.items u.parts.items)
    sum_nonzero x u m n = omega (arith, sum-add x.parts.items u.parts.items (sized x u m n), (generates.points x m).nonzero)

    sum_solves : (x u : Point) → Contains gs x → Contains gs u → 0 < below x.value → 0 < above u.value → Solves columns (all columns before row) (add x.parts.items u.parts.items)
    sum_solves x u m n b a =
        let at = generates.points x m in
        let on = generates.points u n in
        let sides = sides-add row x.parts.items u.parts.items (sized x u m n) in
        Solves-from_space columns before row (add x.parts.items u.parts.items) (Lies-add x.parts.items u.parts.items at.lies on.lies)
        (omega (arith, sides.0, sides.1, at.exact, on.exact, one_side x.value, one_side u.value, (small x m).1, (small u n).0, b, a))

    zero_solves : (x : Point) → Contains gs x → x.value ≡ pos 0 → Solves columns (all columns before row) x.parts.items
    zero_solves x m e =
        let at = generates.points x m in
        let a : above x.value ≡ 0 = ap above e in
        let b : below x.value ≡ 0 = ap below e in
        Solves-from_space columns before row x.parts.items at.lies (omega (arith, at.exact, a, b))

    -- ---- each minimal solution is one of them

    complete : (s : List ℕ) → IsMinimal columns (all columns before row) s → AnyOf (IsFrom gs) gs s
    complete s m = go (cases_lt 0 (above under.0.value)) (cases_lt 0 (below under.0.value))
      where
        under : (g : Point) × Contains gs g × IsAtOrBelow g.parts.items s
        under = generates.under s (space_from_solves columns before row s m.solves).0 m.nonzero

        summed : (x u : Point) → Contains gs x → Contains gs u → 0 < below x.value → 0 < above u.value → IsAtOrBelow (add x.parts.items u.parts.items) s → AnyOf (IsFrom gs) gs s
        summed x u h k b a l = (x, h, inr (u, k, ((b, a), m.least (add x.parts.items u.parts.items) (sum_solves x u h k b a) (sum_nonzero x u h k) l)))

        stepped : (g : Point) → Contains gs g → IsOpposite under.0.value g.value → IsAtOrBelow (add under.0.parts.items g.parts.items) s → AnyOf (IsFrom gs) gs s
        stepped g k (inl o) l = summed g under.0 k under.1 o.1 o.0 (subst (λ z. IsAtOrBelow z s) (add_comm under.0.parts.items g.parts.items (sized under.0 g under.1 k)) l)
        stepped g k (inr o) l = summed under.0 g under.1 k o.0 o.1 l

        further : under.0.value ≢ pos 0 → AnyOf (IsFrom gs) gs s
        further n =
            let r = step_towards columns before row gs generates s under.0 m.solves (generates.points under.0 under.1) n under.2 in
            stepped r.0 r.1 r.2 r.3

        go : (0 < above under.0.value) ⊎ (above under.0.value ≤ 0) → (0 < below under.0.value) ⊎ (below under.0.value ≤ 0) → AnyOf (IsFrom gs) gs s
        go (inl a) b = further (λ e. let f : above under.0.value ≡ 0 = ap above e in omega (arith, f, a))
        go (inr a) (inl b) = further (λ e. let f : below under.0.value ≡ 0 = ap below e in omega (arith, f, b))
        go (inr a) (inr b) =
            let z : under.0.value ≡ pos 0 = zero-both under.0.value (omega (arith, a)) (omega (arith, b)) in
            (under.0, under.1, inl (z, m.least under.0.parts.items (zero_solves under.0 under.1 z) (generates.points under.0 under.1).nonzero under.2))

    -- ---- nothing that points make is below a sum

    module _ (x u : Point) (m : Contains gs x) (n : Contains gs u) (b : 0 < below x.value) (a : 0 < above u.value) where
      abbrev whole : List ℕ
      whole = add x.parts.items u.parts.items

      turned : whole ≡ add u.parts.items x.parts.items
      turned = add_comm x.parts.items u.parts.items (sized x u m n)

      no_zero : (z : Point) → Contains gs z → z.value ≡ pos 0 → IsAtOrBelow z.parts.items whole → ArePaired gs → ⊥
      no_zero z k e l (inl h) =
          let f : above z.value ≡ 0 = ap above e in
          let g : below z.value ≡ 0 = ap below e in
          let same = first_of x u z m n k ((All-contains (IsPlain Positive) gs u h n).single a) (rising_apart u z n k a (omega (arith, f))) l in
          falling_apart x z m k b (omega (arith, g)) (sym same)
      no_zero z k e l (inr h) =
          let f : above z.value ≡ 0 = ap above e in
          let g : below z.value ≡ 0 = ap below e in
          let same = first_of u x z n m k ((All-contains (IsPlain Negative) gs x h m).single b) (falling_apart x z m k b (omega (arith, g))) (subst (IsAtOrBelow z.parts.items) turned l) in
          rising_apart u z n k a (omega (arith, f)) (sym same)

      module _ (y t : Point) (k : Contains gs y) (j : Contains gs t) (d : 0 < below y.value) (c : 0 < above t.value) (l : IsAtOrBelow (add y.parts.items t.parts.items) whole) where
        both : y.parts.items ≡ x.parts.items → t.parts.items ≡ u.parts.items → add y.parts.items t.parts.items ≡ whole
        both e f = ap (λ z. add z t.parts.items) e ∙ ap (add x.parts.items) f

        same_sum : ArePaired gs → add y.parts.items t.parts.items ≡ whole
        same_sum (inl h) =
            let low : IsAtOrBelow y.parts.items whole = below_trans y.parts.items (add y.parts.items t.parts.items) whole (below_add y.parts.items t.parts.items (sized y t k j)) l in
            let e = first_of x u y m n k ((All-contains (IsPlain Positive) gs u h n).single a) (rising_apart u y n k a (omega (arith, one_side y.value, d))) low in
            let on = generates.points t j in
            let rest = below_cancel x.parts.items t.parts.items u.parts.items (sized x t m j) (sized x u m n) (subst (λ z. IsAtOrBelow (add z t.parts.items) whole) e l) in
            both e (generates.least u n t.parts.items on.lies on.nonzero rest)
        same_sum (inr h) =
            let low : IsAtOrBelow t.parts.items whole = below_trans t.parts.items (add y.parts.items t.parts.items) whole (below_add_right y.parts.items t.parts.items (sized y t k j)) l in
            let f = first_of u x t n m j ((All-contains (IsPlain Negative) gs x h m).single b) (falling_apart x t m j b (omega (arith, one_side t.value, c))) (subst (IsAtOrBelow t.parts.items) turned low) in
            let on = generates.points y k in
            let moved = subst (λ z. IsAtOrBelow z (add u.parts.items x.parts.items)) (add_comm y.parts.items u.parts.items (sized y u k n)) (subst (IsAtOrBelow (add y.parts.items u.parts.items)) turned (subst (λ z. IsAtOrBelow (add y.parts.items z) whole) f l)) in
            let rest = below_cancel u.parts.items y.parts.items x.parts.items (sized u y n k) (sized u x n m) moved in
            both (generates.least x m y.parts.items on.lies on.nonzero rest) f

      made_same : (w : List ℕ) → AnyOf (IsFrom gs) gs w → IsAtOrBelow w whole → w ≡ whole
      made_same w (z, k, inl (v, e)) l = absurd (no_zero z k v (subst (λ q. IsAtOrBelow q whole) (sym e) l) paired)
      made_same w (y, k, inr (t, j, (s, e))) l = sym e ∙ same_sum y t k j s.0 s.1 (subst (λ q. IsAtOrBelow q whole) (sym e) l) paired

      sum_minimal : IsMinimal columns (all columns before row) whole
      sum_minimal =
          record {
            solves = sum_solves x u m n b a;
            nonzero = sum_nonzero x u m n;
            least = least;
          }
        where
          least : (y : List ℕ) → Solves columns (all columns before row) y → IsNonZero y → IsAtOrBelow y whole → y ≡ whole
          least y h p l =
              let r = minimal_below columns (all columns before row) (sum y) y (omega arith) h p in
              let same = made_same r.0 (complete r.0 r.1) (below_trans r.0 y whole r.2 l) in
              below_same y whole l (omega (arith, ap sum same, below_sum r.0 y r.2))

    zero_minimal : (x : Point) → Contains gs x → x.value ≡ pos 0 → IsMinimal columns (all columns before row) x.parts.items
    zero_minimal x m e =
        record {
          solves = zero_solves x m e;
          nonzero = (generates.points x m).nonzero;
          least = λ y h p l. generates.least x m y (space_from_solves columns before row y h).0 p l;
        }

    each : (w : List ℕ) → AnyOf (IsFrom gs) gs w → IsMinimal columns (all columns before row) w
    each w (x, m, inl (v, e)) = subst (IsMinimal columns (all columns before row)) e (zero_minimal x m v)
    each w (x, m, inr (u, n, (s, e))) = subst (IsMinimal columns (all columns before row)) e (sum_minimal x u m n s.0 s.1)

    pub pairs_exact : (w : List ℕ) → AnyOf (IsFrom gs) gs w ↔ IsMinimal columns (all columns before row) w
    pairs_exact w = (each w, complete w)
