-- The search for one more row: from a vector below a minimal solution a step leads on below it, and no such path is long.
use Rattle.std.proofs.Common.{Some, ◌≡◌, ◌≢◌, ℕ, zero, suc, ◌+◌, ◌<◌, ◌≤◌, ◌⊎◌, ℤ, pos, ◌+ℤ◌, List, [], ◌∷◌, ◌++◌, length, sum, refl, sym, ap, ◌∙◌, subst, inl, inr, arith}
use Rattle.std.specs.List.{All, Contains}
use Rattle.std.proofs.lemmas.List.Elements.{All-push, All-pop, All-from_get_or}
use Rattle.std.proofs.lemmas.Bool.{cases_lt}
use Rattle.fvn_lindio.specs.Vectors.{IsAtOrBelow, IsNonZero, add}
use Rattle.fvn_lindio.specs.Systems.{above, below, up, down, IsZeroAt, Solves}
use Rattle.fvn_lindio.specs.inner.Search.{IsOpposite, Lies}
use Rattle.fvn_lindio.specs.inner.Levels.{IsPoint, Generates}
use Rattle.fvn_lindio.specs.declared.level.Point.{Point}
use Rattle.fvn_lindio.proofs.VectorLemmas.{length-add, sum-add, sides-add, get_or-add, sides-zero, below_trans, below_length, add_below, difference}
use Rattle.fvn_lindio.proofs.ValueLemmas.{one_side, above-add, zero-both}
use Rattle.fvn_lindio.proofs.Solving.{Lies-rest}

-- ---- values

-- a value other than zero is above it or below
sign : (v : ℤ) → v ≢ pos 0 → (0 < above v) ⊎ (0 < below v)
sign v n = go (cases_lt 0 (above v)) (cases_lt 0 (below v))
  where
    go : (0 < above v) ⊎ (above v ≤ 0) → (0 < below v) ⊎ (below v ≤ 0) → (0 < above v) ⊎ (0 < below v)
    go (inl h) k = inl h
    go (inr h) (inl k) = inr k
    go (inr h) (inr k) = absurd (n (zero-both v (omega arith) (omega arith)))

-- a sum of numbers of opposite signs stays within the bounds of both
pub opposite_bounds : (a b : ℤ) (high low : ℕ) → IsOpposite a b → above a ≤ high → below a ≤ low → above b ≤ high → below b ≤ low → (above (a +ℤ b) ≤ high) × (below (a +ℤ b) ≤ low)
opposite_bounds a b high low o h k l m = go o (one_side a) (one_side b) (one_side (a +ℤ b))
  where
    go : IsOpposite a b → (above a ≡ 0) ⊎ (below a ≡ 0) → (above b ≡ 0) ⊎ (below b ≡ 0) → (above (a +ℤ b) ≡ 0) ⊎ (below (a +ℤ b) ≡ 0) → (above (a +ℤ b) ≤ high) × (below (a +ℤ b) ≤ low)
    go (inl o) (inl e) f g = absurd (omega (arith, o.0))
    go (inl o) (inr e) (inr f) g = absurd (omega (arith, o.1))
    go (inl o) (inr e) (inl f) (inl g) = (omega arith, omega (arith, above-add a b))
    go (inl o) (inr e) (inl f) (inr g) = (omega (arith, above-add a b), omega arith)
    go (inr o) (inr e) f g = absurd (omega (arith, o.0))
    go (inr o) (inl e) (inl f) g = absurd (omega (arith, o.1))
    go (inr o) (inl e) (inr f) (inl g) = (omega arith, omega (arith, above-add a b))
    go (inr o) (inl e) (inr f) (inr g) = (omega (arith, above-add a b), omega arith)

pub below_add_right : (x y : List ℕ) → length x ≡ length y → IsAtOrBelow y (add x y)
below_add_right [] [] h = tt
below_add_right [] (b ∷ y) h = absurd (omega arith)
below_add_right (a ∷ x) [] h = absurd (omega arith)
below_add_right (a ∷ x) (b ∷ y) h =
    let e : length x ≡ length y = omega arith in
    (omega arith, below_add_right x y e)

pub All_add : (m n : ℕ) (x y : List ℕ) → length x ≡ length y → All (λ a. a ≤ m) x → All (λ a. a ≤ n) y → All (λ a. a ≤ m + n) (add x y)
All_add m n x y e h k = All-from_get_or (λ a. a ≤ m + n) (add x y) 0 (λ i l. let b : i < length x = omega (arith, length-add x y e) in omega (arith, get_or-add x y i e, h i 0 b, k i 0 (omega (arith, e))))

module _ (columns : ℕ) (before : List (List ℤ)) (row : List ℤ) where
  abbrev pub all : List (List ℤ)
  all = before ++ (row ∷ [])

  abbrev pub Space : List ℕ → Type 0
  Space x = Lies columns before all x

  -- a vector of the space at which the row is zero solves all rows
  pub Solves-from_space : (x : List ℕ) → Space x → up row x ≡ down row x → Solves columns all x
  Solves-from_space x h e =
      record {
        sized = h.sized;
        zero_rows = All-push (IsZeroAt x) before row h.zero_rows e;
        unused = h.unused;
      }

  pub space_from_solves : (x : List ℕ) → Solves columns all x → Space x × (up row x ≡ down row x)
  space_from_solves x h =
      let rows = All-pop (IsZeroAt x) all before (Some row) refl h.zero_rows in
      (record { sized = h.sized; zero_rows = rows.0; unused = h.unused }, rows.1)

  -- by how much a vector of the space exceeds one at or below it: this lies in the space too, and what rows and sums give subtracts
  pub record Rest (x z : List ℕ) : Type 0 where
    pub vector : List ℕ
    pub sized : length x ≡ length vector
    pub whole : add x vector ≡ z
    pub lies : Space vector
    pub under : IsAtOrBelow vector z
    pub ups : up row x + up row vector ≡ up row z
    pub downs : down row x + down row vector ≡ down row z
    pub sums : sum x + sum vector ≡ sum z

  pub rest_of : (x z : List ℕ) → Space x → Space z → IsAtOrBelow x z → Rest x z
  rest_of x z h k l =
      let d = difference x z l in
      let e : add x d.0 ≡ z = d.2 in
      let sides = sides-add row x d.0 d.1 in
      record {
        vector = d.0;
        sized = d.1;
        whole = e;
        lies = Lies-rest x d.0 d.1 h (subst Space (sym e) k);
        under = subst (IsAtOrBelow d.0) e (below_add_right x d.0 d.1);
        ups = sym sides.0 ∙ ap (up row) e;
        downs = sym sides.1 ∙ ap (down row) e;
        sums = sym (sum-add x d.0 d.1) ∙ ap sum e;
      }

  module _ (gs : List Point) (generates : Generates columns before row gs) where
    -- a generator at or below the vector, with a value on this side of zero
    abbrev HasOnSide : (ℤ → ℕ) → List ℕ → Type 0
    HasOnSide side z = (g : Point) × Contains gs g × IsAtOrBelow g.parts.items z × (0 < side g.value)

    -- at or below a vector that leans to a side stands a generator on it, where no zero vector leans, and taking away a generator not on it leaves the vector leaning
    module _ (Leans : List ℕ → Type 0) (side : ℤ → ℕ) (nonzero : (z : List ℕ) → Leans z → IsNonZero z)
        (stays : (g : Point) (z : List ℕ) → IsPoint columns before row g → side g.value ≤ 0 → (r : Rest g.parts.items z) → Leans z → Leans r.vector) where
      leaning : (n : ℕ) (z : List ℕ) → sum z ≤ n → Space z → Leans z → HasOnSide side z
      leaning zero z b h l = absurd (omega (arith, b, nonzero z l))
      leaning (suc n) z b h l = go (cases_lt 0 (side under.0.value)) (leaning n)
        where
          under : (g : Point) × Contains gs g × IsAtOrBelow g.parts.items z
          under = generates.under z h (nonzero z l)

          go : (0 < side under.0.value) ⊎ (side under.0.value ≤ 0) → ((y : List ℕ) → sum y ≤ n → Space y → Leans y → HasOnSide side y) → HasOnSide side z
          go (inl p) further = (under.0, under.1, under.2, p)
          go (inr p) further =
              let point = generates.points under.0 under.1 in
              let rest = rest_of under.0.parts.items z point.lies h under.2 in
              let r = further rest.vector (omega (arith, b, rest.sums, point.nonzero)) rest.lies (stays under.0 z point p rest l) in
              (r.0, r.1, below_trans r.0.parts.items rest.vector z r.2 rest.under, r.3)

    -- in a vector at which the row is below zero stands a generator at which it is
    falling : (z : List ℕ) → Space z → up row z < down row z → HasOnSide below z
    falling z =
        leaning (λ y. up row y < down row y) below (λ y l. let n : sum y ≢ 0 = λ e. omega (arith, (sides-zero row y e).1, l) in omega (arith, n))
        (λ g y point p r l. omega (arith, r.ups, r.downs, point.exact, p, l)) (sum z) z (omega arith)

    -- likewise above zero
    rising : (z : List ℕ) → Space z → down row z < up row z → HasOnSide above z
    rising z =
        leaning (λ y. down row y < up row y) above (λ y l. let n : sum y ≢ 0 = λ e. omega (arith, (sides-zero row y e).0, l) in omega (arith, n))
        (λ g y point p r l. omega (arith, r.ups, r.downs, point.exact, p, l)) (sum z) z (omega arith)

    -- from a vector below a solution, at which the row is not zero, a step leads to one that is at or below the solution too
    pub step_towards : (s : List ℕ) (p : Point) → Solves columns all s → IsPoint columns before row p → p.value ≢ pos 0 → IsAtOrBelow p.parts.items s → (g : Point) × Contains gs g × IsOpposite p.value g.value × IsAtOrBelow (add p.parts.items g.parts.items) s
    step_towards s p h point n l = go (sign p.value n) (one_side p.value)
      where
        at : Space s × (up row s ≡ down row s)
        at = space_from_solves s h

        rest : Rest p.parts.items s
        rest = rest_of p.parts.items s point.lies at.0 l

        reach : (g : Point) → IsAtOrBelow g.parts.items rest.vector → IsAtOrBelow (add p.parts.items g.parts.items) s
        reach g k = subst (IsAtOrBelow (add p.parts.items g.parts.items)) rest.whole (add_below p.parts.items g.parts.items rest.vector (rest.sized ∙ sym (below_length g.parts.items rest.vector k)) k)

        go : (0 < above p.value) ⊎ (0 < below p.value) → (above p.value ≡ 0) ⊎ (below p.value ≡ 0) → (g : Point) × Contains gs g × IsOpposite p.value g.value × IsAtOrBelow (add p.parts.items g.parts.items) s
        go (inl a) (inl e) = absurd (omega (arith, a))
        go (inl a) (inr e) =
            let r = falling rest.vector rest.lies (omega (arith, rest.ups, rest.downs, at.1, point.exact, e, a)) in
            (r.0, r.1, inl (a, r.3), reach r.0 r.2)
        go (inr b) (inr e) = absurd (omega (arith, b))
        go (inr b) (inl e) =
            let r = rising rest.vector rest.lies (omega (arith, rest.ups, rest.downs, at.1, point.exact, e, b)) in
            (r.0, r.1, inr (b, r.3), reach r.0 r.2)
