-- Signed numbers as what they have above zero and what they have below.
use Rattle.std.proofs.Common.{◌≡◌, ℕ, ◌+◌, ◌*◌, ◌<◌, ◌≤◌, ◌⊎◌, ℤ, pos, negsuc, ◌+ℤ◌, ◌*ℤ◌, ◌<ℤ◌, List, length, get_or, take, refl, sym, ap, ◌∙◌, inl, inr, arith}
use Rattle.std.specs.Prelude.{unsigned_abs}
use Rattle.std.proofs.lemmas.Int.{ints, to_z-of_z, to_z_pos, fits_signed_from_abs, fits_signed_mul}
use Rattle.std.proofs.Common.{to_z, of_z, w32, w64, FitsSigned, mul-le-mul}
use Rattle.fvn_lindio.specs.Systems.{above, below}
use Rattle.fvn_lindio.specs.inner.Search.{IsValue, IsOpposite}
use Rattle.fvn_lindio.proofs.VectorLemmas.{sides-take_more}

-- one of the two is nothing
pub one_side : (z : ℤ) → (above z ≡ 0) ⊎ (below z ≡ 0)
one_side (pos n) = inr refl
one_side (negsuc n) = inl refl

pub above-add : (a b : ℤ) → above (a +ℤ b) + (below a + below b) ≡ below (a +ℤ b) + (above a + above b)
above-add a b = omega (arith, ints)

pub above-positive : (a : ℤ) → pos 0 <ℤ a → 0 < above a
above-positive a h = omega (arith, ints, one_side)

pub below-negative : (a : ℤ) → a <ℤ pos 0 → 0 < below a
below-negative a h = omega (arith, ints)

pub positive-above : (a : ℤ) → 0 < above a → pos 0 <ℤ a
positive-above (pos n) h = omega (arith, ints)
positive-above (negsuc n) h = absurd (omega arith)

pub zero-both : (a : ℤ) → above a ≡ 0 → below a ≡ 0 → a ≡ pos 0
zero-both (pos n) h k = ap pos h
zero-both (negsuc n) h k = absurd (omega arith)

pub above-times : (c : ℤ) (a : ℕ) → above (c *ℤ pos a) ≡ above c * a
above-times c a = omega (arith, ints)

pub below-times : (c : ℤ) (a : ℕ) → below (c *ℤ pos a) ≡ below c * a
below-times c a = omega (arith, ints)

-- one coefficient more
pub value-more : (row : List ℤ) (x : List ℕ) (i : ℕ) (v : ℤ) → i < length row → IsValue (take i row) x v → IsValue (take (i + 1) row) x (v +ℤ get_or row i (pos 0) *ℤ pos (get_or x i 0))
value-more row x i v h k =
    let c = get_or row i (pos 0) in
    let a = get_or x i 0 in
    let sides = sides-take_more row x i h in
    omega (arith, sides.0, sides.1, k, above-add v (c *ℤ pos a), above-times c a, below-times c a)

pub above-le : (c : ℤ) (m : ℕ) → unsigned_abs c ≤ m → (above c ≤ m) × (below c ≤ m)
above-le (pos n) m h = (h, omega arith)
above-le (negsuc n) m h = (omega arith, h)

pub value-more_size : (v c : ℤ) (a n : ℕ) → unsigned_abs c ≤ 65535 → a ≤ 65535 → above v ≤ n * 4294836225 → below v ≤ n * 4294836225 → (above (v +ℤ c *ℤ pos a) ≤ (n + 1) * 4294836225) × (below (v +ℤ c *ℤ pos a) ≤ (n + 1) * 4294836225)
value-more_size v c a n h k l m = go (one_side (v +ℤ c *ℤ pos a))
  where
    up_size : above c * a ≤ 65535 * 65535
    up_size = mul-le-mul (above-le c 65535 h).0 k

    down_size : below c * a ≤ 65535 * 65535
    down_size = mul-le-mul (above-le c 65535 h).1 k

    go : (above (v +ℤ c *ℤ pos a) ≡ 0) ⊎ (below (v +ℤ c *ℤ pos a) ≡ 0) → (above (v +ℤ c *ℤ pos a) ≤ (n + 1) * 4294836225) × (below (v +ℤ c *ℤ pos a) ≤ (n + 1) * 4294836225)
    go (inl e) = (omega (arith, e), omega (arith, e, above-add v (c *ℤ pos a), above-times c a, below-times c a, up_size, down_size, l, m))
    go (inr e) = (omega (arith, e, above-add v (c *ℤ pos a), above-times c a, below-times c a, up_size, down_size, l, m), omega (arith, e))

-- what the code has in w64 and w32, where everything fits
pub value_read : (v c : ℤ) (a bits : ℕ) (r : ℤ) → unsigned_abs c ≤ 65535 → a ≤ 65535 → above v ≤ 1000 * 4294836225 → below v ≤ 1000 * 4294836225 → v ≡ to_z w64 bits → r ≡ to_z w32 (of_z w32 c) → to_z w64 (of_z w64 (to_z w64 bits +ℤ to_z w64 (of_z w64 (to_z w64 (of_z w64 r) *ℤ to_z w64 a)))) ≡ v +ℤ c *ℤ pos a
value_read v c a bits r h k l m e f =
    let small : FitsSigned w32 c = fits_signed_from_abs w32 c (omega (arith, h)) in
    let fits : FitsSigned w64 c = fits_signed_from_abs w64 c (omega (arith, h)) in
    let product : FitsSigned w64 (c *ℤ pos a) = fits_signed_mul w64 c (pos a) 65535 65535 h k (omega arith) in
    let whole : FitsSigned w64 (v +ℤ c *ℤ pos a) = omega (arith, ints, above-add v (c *ℤ pos a), above-times c a, below-times c a, mul-le-mul (above-le c 65535 h).0 k, mul-le-mul (above-le c 65535 h).1 k, l, m) in
    let read : r ≡ c = f ∙ to_z-of_z w32 c small in
    let part : to_z w64 a ≡ pos a = to_z_pos w64 a (omega (arith, k)) in
    let times : to_z w64 (of_z w64 (to_z w64 (of_z w64 c) *ℤ pos a)) ≡ c *ℤ pos a = ap (λ z. to_z w64 (of_z w64 (z *ℤ pos a))) (to_z-of_z w64 c fits) ∙ to_z-of_z w64 (c *ℤ pos a) product in
    ap (λ z. to_z w64 (of_z w64 (z +ℤ to_z w64 (of_z w64 (to_z w64 (of_z w64 r) *ℤ to_z w64 a))))) (sym e)
    ∙ (ap (λ z. to_z w64 (of_z w64 (v +ℤ to_z w64 (of_z w64 (to_z w64 (of_z w64 z) *ℤ to_z w64 a))))) read
    ∙ (ap (λ z. to_z w64 (of_z w64 (v +ℤ to_z w64 (of_z w64 (to_z w64 (of_z w64 c) *ℤ z))))) part
    ∙ (ap (λ z. to_z w64 (of_z w64 (v +ℤ z))) times
    ∙ to_z-of_z w64 (v +ℤ c *ℤ pos a) whole)))

-- numbers of opposite signs have a sum that fits
pub sum_fits : (a b : ℤ) → FitsSigned w64 a → FitsSigned w64 b → IsOpposite a b → to_z w64 (of_z w64 (a +ℤ b)) ≡ a +ℤ b
sum_fits a b f g (inl o) = omega (arith, ints, f, g, o.0, o.1, one_side a, one_side b)
sum_fits a b f g (inr o) = omega (arith, ints, f, g, o.0, o.1, one_side a, one_side b)

-- the same as the code reads it
pub sum_read : (a b : ℤ) → FitsSigned w64 a → FitsSigned w64 b → IsOpposite a b → to_z w64 (of_z w64 (to_z w64 (of_z w64 a) +ℤ to_z w64 (of_z w64 b))) ≡ a +ℤ b
sum_read a b f g o =
    ap (λ z. to_z w64 (of_z w64 (z +ℤ to_z w64 (of_z w64 b)))) (to_z-of_z w64 a f)
    ∙ (ap (λ z. to_z w64 (of_z w64 (a +ℤ z))) (to_z-of_z w64 b g) ∙ sum_fits a b f g o)

-- a coefficient that the code reads as zero is zero
pub zero_read : (z : ℤ) → FitsSigned w32 z → of_z w32 z ≡ 0 → z ≡ pos 0
zero_read (pos n) f e = ap pos e
zero_read (negsuc n) f e = absurd (omega (arith, ints, f, e))
