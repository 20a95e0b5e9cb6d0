-- A sum system whose columns stand in another order has the same minimal solutions.
use Rattle.std.proofs.Common.{◌≡◌, ◌⊎◌, ℕ, zero, suc, ◌+◌, ◌<◌, ◌≤◌, Bool, true, false, List, [], ◌∷◌, map, length, get_or, sum, refl, sym, ap, ◌∙◌, subst, inl, inr, arith, All, Contains, Option, Some, None, slice_get}
use Rattle.std.specs.Prelude.{ℤ, pos, nat_eq, if◌then◌else◌}
use Rattle.std.proofs.lemmas.Bool.{cases_eq, cases_lt, eq-eqb, ne_eqb}
use Rattle.std.proofs.lemmas.List.{get_or-map, get_or_default, length-map, ext_get_or}
use Rattle.std.proofs.lemmas.List.Elements.{All-contains, Contains-get_or}
use Rattle.std.proofs.lemmas.List.Sums.{sum_by-cons}
use Rattle.fvn_base.proofs.Membership.{contains_cases, contains_none, contains_map, map_contains}
use Rattle.fvn_terms.specs.declared.plain.OpId.{OpId}
use Rattle.fvn_lindio.specs.declared.system.System.{System}
use Rattle.fvn_lindio.specs.Vectors.{IsAtOrBelow, IsNonZero}
use Rattle.fvn_lindio.specs.Systems.{IsZeroAt, IsUnused, Solves, IsMinimal, rows_of}
use Rattle.fvn_combine_nodes.specs.FlatSolvedLists.{component}
use Rattle.fvn_combine_nodes.specs.Table.{NodeTable}
use Rattle.fvn_combine_nodes.proofs.Lists.{all_from}
use Rattle.fvn_combine_systems.specs.NodeSystems.{addends, sums, coefficient, row_at, IsNodeSystem}
use Rattle.fvn_combine_systems.proofs.Weighing.{component_at, component-out, zero_row, nothing_row}

-- the component in a column that is listed, of the values of a function
mapped : (g : ℕ → ℕ) (ks : List ℕ) (k : ℕ) → (component ks (map g ks) k ≡ g k) ⊎ (Contains ks k → ⊥)
mapped g [] k = inr (contains_none k)
mapped g (c ∷ ks) k = elim (cases_eq c k) [
  | inl e ↦ inl (ap (λ b. if b then g c else component ks (map g ks) k) (eq-eqb c k e) ∙ ap g e)
  | inr o ↦ elim (mapped g ks k) [
    | inl q ↦ inl (ap (λ b. if b then g c else component ks (map g ks) k) (ne_eqb c k o) ∙ q)
    | inr n ↦ inr (λ h. elim (contains_cases c ks k h) [ inl e ↦ o e | inr r ↦ n r ])
  ]
]

-- beyond a list there is 0
get_or_beyond : (xs : List ℕ) (i : ℕ) → length xs ≤ i → get_or xs i 0 ≡ 0
get_or_beyond [] i l = refl
get_or_beyond (x ∷ xs) zero l = absurd (omega (arith, l))
get_or_beyond (x ∷ xs) (suc i) l = get_or_beyond xs i (omega (arith, l))

-- a component is at most the sum
component_le : (ks x : List ℕ) (k : ℕ) → component ks x k ≤ sum x
component_le [] x k = omega arith
component_le (c ∷ ks) [] k = omega arith
component_le (c ∷ ks) (a ∷ x) k = go (nat_eq c k) (component_le ks x k) (sum_by-cons (λ (n : ℕ). n) a x)
  where
    go : (b : Bool) → component ks x k ≤ sum x → sum (a ∷ x) ≡ a + sum x → (if b then a else component ks x k) ≤ sum (a ∷ x)
    go true rest s = omega (arith, s)
    go false rest s = omega (arith, s, rest)

-- a vector other than zero has a component other than zero
nonzero_at : (x : List ℕ) → 0 < sum x → (i : ℕ) × (i < length x) × (0 < get_or x i 0)
nonzero_at [] h = absurd (omega (arith, h))
nonzero_at (zero ∷ x) h =
    let s = sum_by-cons (λ (n : ℕ). n) 0 x in
    let r = nonzero_at x (omega (arith, s, h)) in
    (suc r.0, let l = r.1 in omega (arith, l), r.2)
nonzero_at (suc a ∷ x) h = (0, omega arith, omega arith)

-- components of a vector that is below
component_below : (ks x y : List ℕ) (k : ℕ) → IsAtOrBelow x y → component ks x k ≤ component ks y k
component_below [] x y k h = omega arith
component_below (c ∷ ks) [] y k h = omega arith
component_below (c ∷ ks) (a ∷ x) [] k h = absurd h
component_below (c ∷ ks) (a ∷ x) (b ∷ y) k h = go (nat_eq c k) h.0 (component_below ks x y k h.1)
  where
    go : (t : Bool) → a ≤ b → component ks x k ≤ component ks y k → (if t then a else component ks x k) ≤ (if t then b else component ks y k)
    go true own rest = own
    go false own rest = rest

-- values of functions of which one is below the other
below_map : (f g : ℕ → ℕ) → ((k : ℕ) → f k ≤ g k) → (ks : List ℕ) → IsAtOrBelow (map f ks) (map g ks)
below_map f g h [] = tt
below_map f g h (k ∷ ks) = (h k, below_map f g h ks)

-- the components, in the order of other columns
abbrev pub carry : (columns others x : List ℕ) → List ℕ
carry columns others x = map (component columns x) others

module _ (t : NodeTable) (class : ℕ → ℕ) (f : OpId) where
  module _ (columns others : List ℕ) (system other : System) (one : IsNodeSystem t class f columns system) (two : IsNodeSystem t class f others other) where
    there : (k : ℕ) → Contains columns k → Contains others k
    there k c = (two.exact k).1 ((one.exact k).0 c)

    back : (k : ℕ) → Contains others k → Contains columns k
    back k c = (one.exact k).1 ((two.exact k).0 c)

    -- each component is kept
    pub carried : (x : List ℕ) (k : ℕ) → component others (carry columns others x) k ≡ component columns x k
    carried x k = elim (mapped (component columns x) others k) [
      | inl e ↦ e
      | inr n ↦ component-out others (carry columns others x) k n ∙ sym (component-out columns x k (λ c. n (there k c)))
    ]

    -- a row that is zero stays so
    zero_carried : (x : List ℕ) (i : ℕ) → IsZeroAt x (row_at t class f columns i) → IsZeroAt (carry columns others x) (row_at t class f others i)
    zero_carried x i = go (addends f (slice_get t.nodes i))
      where
        go : (o : Option (ℕ × ℕ)) → IsZeroAt x (map (coefficient class i o) columns) → IsZeroAt (carry columns others x) (map (coefficient class i o) others)
        go None z = nothing_row others (carry columns others x)
        go (Some p) z =
            let from = (zero_row columns x one.distinct (class p.0) (class p.1) (class i)).0 z in
            let a = carried x (class p.0) in
            let b = carried x (class p.1) in
            let c = carried x (class i) in
            (zero_row others (carry columns others x) two.distinct (class p.0) (class p.1) (class i)).1 (omega (arith, from, a, b, c))

    rows_carried : (x : List ℕ) → All (IsZeroAt x) (rows_of system) → All (IsZeroAt (carry columns others x)) (rows_of other)
    rows_carried x h = subst (All (IsZeroAt (carry columns others x))) (sym two.rows)
        (all_from (IsZeroAt (carry columns others x)) (map (row_at t class f others) (sums t f)) (λ row c.
        let m = map_contains (row_at t class f others) (sums t f) row c in
        subst (IsZeroAt (carry columns others x)) m.1.1
        (zero_carried x m.0 (All-contains (IsZeroAt x) (map (row_at t class f columns) (sums t f)) (row_at t class f columns m.0) (subst (All (IsZeroAt x)) one.rows h) (contains_map (row_at t class f columns) (sums t f) m.0 m.1.0)))))

    -- where a column stands in the other order
    place : (j : ℕ) → j < length others → (i : ℕ) × (i < length columns) × (get_or columns i 0 ≡ get_or others j 0)
    place j l =
        let k = get_or others j 0 in
        let c = back k (Contains-get_or others j 0 l) in
        (c.0, c.1, get_or_default columns c.0 0 k c.1 ∙ c.2)

    unused_back : (j : ℕ) (l : j < length others) → IsUnused (rows_of other) j → IsUnused (rows_of system) (place j l).0
    unused_back j l h =
        let p = place j l in
        let P = λ (n : ℕ) (row : List ℤ). get_or row n (pos 0) ≡ pos 0 in
        subst (All (P p.0)) (sym one.rows) (all_from (P p.0) (map (row_at t class f columns) (sums t f)) (λ row c.
        let m = map_contains (row_at t class f columns) (sums t f) row c in
        let g = coefficient class m.0 (addends f (slice_get t.nodes m.0)) in
        let at_other : get_or (row_at t class f others m.0) j (pos 0) ≡ pos 0 = All-contains (P j) (map (row_at t class f others) (sums t f)) (row_at t class f others m.0) (subst (All (P j)) two.rows h) (contains_map (row_at t class f others) (sums t f) m.0 m.1.0) in
        subst (P p.0) m.1.1 (get_or-map g columns p.0 0 (pos 0) p.1 ∙ ap g p.2 ∙ sym (get_or-map g others j 0 (pos 0) l) ∙ at_other)))

    pub solves_carried : (x : List ℕ) → Solves system.columns (rows_of system) x → Solves other.columns (rows_of other) (carry columns others x)
    solves_carried x h = record {
      sized = length-map others (component columns x) ∙ sym two.wide;
      zero_rows = rows_carried x h.zero_rows;
      unused = λ j u. elim (cases_lt j (length others)) [
        | inl l ↦
            let p = place j l in
            get_or-map (component columns x) others j 0 0 l ∙ ap (component columns x) (sym p.2) ∙ component_at columns x one.distinct p.0 p.1 ∙ h.unused p.0 (unused_back j l u)
        | inr above ↦ get_or_beyond (carry columns others x) j (let n = length-map others (component columns x) in omega (arith, n, above))
      ];
    }

    pub nonzero_carried : (x : List ℕ) → length x ≡ length columns → IsNonZero x → IsNonZero (carry columns others x)
    nonzero_carried x n h =
        let at = nonzero_at x h in
        let k = get_or columns at.0 0 in
        let own : component columns x k ≡ get_or x at.0 0 = component_at columns x one.distinct at.0 (let l = at.1 in omega (arith, l, n)) in
        let same = carried x k in
        let le = component_le others (carry columns others x) k in
        let p = at.2 in
        omega (arith, own, same, le, p)

  -- and back again
  pub carried_back : (columns others : List ℕ) (system other : System) → IsNodeSystem t class f columns system → IsNodeSystem t class f others other → (x : List ℕ) → length x ≡ length columns → carry others columns (carry columns others x) ≡ x
  carried_back columns others system other one two x n =
      let y = carry columns others x in
      ext_get_or 0 (carry others columns y) x (length-map columns (component others y) ∙ sym n) (λ i l.
      let within : i < length columns = let m = length-map columns (component others y) in omega (arith, l, m) in
      get_or-map (component others y) columns i 0 0 within ∙ carried columns others system other one two x (get_or columns i 0) ∙ component_at columns x one.distinct i within)

  -- a minimal solution is carried to one
  pub minimal_carried : (columns others : List ℕ) (system other : System) → IsNodeSystem t class f columns system → IsNodeSystem t class f others other → (x : List ℕ) → IsMinimal system.columns (rows_of system) x → IsMinimal other.columns (rows_of other) (carry columns others x)
  minimal_carried columns others system other one two x h =
      let sized : length x ≡ length columns = h.solves.sized ∙ one.wide in
      record {
        solves = solves_carried columns others system other one two x h.solves;
        nonzero = nonzero_carried columns others system other one two x sized h.nonzero;
        least = λ y s p below.
            let long : length y ≡ length others = s.sized ∙ two.wide in
            let z = carry others columns y in
            let under : IsAtOrBelow z (carry others columns (carry columns others x)) = below_map (component others y) (component others (carry columns others x)) (λ k. component_below others y (carry columns others x) k below) columns in
            let same : z ≡ x = h.least z (solves_carried others columns other system two one y s) (nonzero_carried others columns other system two one y long p) (subst (IsAtOrBelow z) (carried_back columns others system other one two x sized) under) in
            sym (carried_back others columns other system two one y long) ∙ ap (carry columns others) same;
      }
