-- Sums and differences of vectors, the order component by component, and rows at them.
use Rattle.std.proofs.Common.{◌≡◌, ℕ, zero, ◌+◌, ◌-◌, ◌*◌, ◌<◌, ◌≤◌, suc, ℤ, pos, List, [], ◌∷◌, ◌++◌, length, get_or, take, sum, refl, ap, arith, add-one}
use Rattle.std.proofs.lemmas.List.Sums.{sum_by-cons}
use Rattle.fvn_lindio.specs.Vectors.{IsAtOrBelow, add}
use Rattle.fvn_lindio.specs.Systems.{above, below, up, down}

pub sum-cons : (a : ℕ) (x : List ℕ) → sum (a ∷ x) ≡ a + sum x
sum-cons a x = sum_by-cons (λ b. b) a x

pub length-add : (x y : List ℕ) → length x ≡ length y → length (add x y) ≡ length x
length-add [] y h = refl
length-add (a ∷ x) [] h = omega arith
length-add (a ∷ x) (b ∷ y) h =
    let e : length x ≡ length y = omega arith in
    ap suc (length-add x y e)

pub sum-add : (x y : List ℕ) → length x ≡ length y → sum (add x y) ≡ sum x + sum y
sum-add [] [] h = refl
sum-add [] (b ∷ y) h = absurd (omega arith)
sum-add (a ∷ x) [] h = absurd (omega arith)
sum-add (a ∷ x) (b ∷ y) h =
    let e : length x ≡ length y = omega arith in
    let r = sum-add x y e in
    omega (arith, sum-cons (a + b) (add x y), sum-cons a x, sum-cons b y, r)

-- what the coefficients above zero give at a sum, and what those below zero take
pub sides-add : (row : List ℤ) (x y : List ℕ) → length x ≡ length y → (up row (add x y) ≡ up row x + up row y) × (down row (add x y) ≡ down row x + down row y)
sides-add [] x y h = (refl, refl)
sides-add (c ∷ row) [] [] h = (refl, refl)
sides-add (c ∷ row) [] (b ∷ y) h = absurd (omega arith)
sides-add (c ∷ row) (a ∷ x) [] h = absurd (omega arith)
sides-add (c ∷ row) (a ∷ x) (b ∷ y) h =
    let e : length x ≡ length y = omega arith in
    let r = sides-add row x y e in
    (omega (arith, r.0), omega (arith, r.1))

pub get_or-add : (x y : List ℕ) (j : ℕ) → length x ≡ length y → get_or (add x y) j 0 ≡ get_or x j 0 + get_or y j 0
get_or-add [] [] j h = refl
get_or-add [] (b ∷ y) j h = absurd (omega arith)
get_or-add (a ∷ x) [] j h = absurd (omega arith)
get_or-add (a ∷ x) (b ∷ y) zero h = refl
get_or-add (a ∷ x) (b ∷ y) (suc j) h =
    let e : length x ≡ length y = omega arith in
    get_or-add x y j e

-- a vector that sums to zero has nothing anywhere
pub sides-zero : (row : List ℤ) (x : List ℕ) → sum x ≡ 0 → (up row x ≡ 0) × (down row x ≡ 0)
sides-zero [] x h = (refl, refl)
sides-zero (c ∷ row) [] h = (refl, refl)
sides-zero (c ∷ row) (a ∷ x) h =
    let e : a ≡ 0 = omega (arith, sum-cons a x) in
    let z : sum x ≡ 0 = omega (arith, sum-cons a x) in
    let r = sides-zero row x z in
    rw e (omega (arith, r.0), omega (arith, r.1))

-- ---- the order

pub below_refl : (x : List ℕ) → IsAtOrBelow x x
below_refl [] = tt
below_refl (a ∷ x) = (omega arith, below_refl x)

pub below_trans : (x y z : List ℕ) → IsAtOrBelow x y → IsAtOrBelow y z → IsAtOrBelow x z
below_trans [] [] z h k = k
below_trans [] (b ∷ y) z h k = absurd h
below_trans (a ∷ x) [] z h k = absurd h
below_trans (a ∷ x) (b ∷ y) [] h k = absurd k
below_trans (a ∷ x) (b ∷ y) (c ∷ z) h k = (omega (arith, h.0, k.0), below_trans x y z h.1 k.1)

pub below_length : (x y : List ℕ) → IsAtOrBelow x y → length x ≡ length y
below_length [] [] h = refl
below_length [] (b ∷ y) h = absurd h
below_length (a ∷ x) [] h = absurd h
below_length (a ∷ x) (b ∷ y) h = ap suc (below_length x y h.1)

pub below_sum : (x y : List ℕ) → IsAtOrBelow x y → sum x ≤ sum y
below_sum [] [] h = omega arith
below_sum [] (b ∷ y) h = absurd h
below_sum (a ∷ x) [] h = absurd h
below_sum (a ∷ x) (b ∷ y) h = omega (arith, sum-cons a x, sum-cons b y, h.0, below_sum x y h.1)

pub below_same : (x y : List ℕ) → IsAtOrBelow x y → sum y ≤ sum x → x ≡ y
below_same [] [] h e = refl
below_same [] (b ∷ y) h e = absurd h
below_same (a ∷ x) [] h e = absurd h
below_same (a ∷ x) (b ∷ y) h e =
    let s : sum x ≤ sum y = below_sum x y h.1 in
    let f : a ≡ b = omega (arith, sum-cons a x, sum-cons b y, h.0, s) in
    let r : sum y ≤ sum x = omega (arith, sum-cons a x, sum-cons b y, h.0, s) in
    let t : x ≡ y = below_same x y h.1 r in
    cc

pub below_get_or : (x y : List ℕ) (j : ℕ) → IsAtOrBelow x y → get_or x j 0 ≤ get_or y j 0
below_get_or [] [] j h = omega arith
below_get_or [] (b ∷ y) j h = absurd h
below_get_or (a ∷ x) [] j h = absurd h
below_get_or (a ∷ x) (b ∷ y) zero h = h.0
below_get_or (a ∷ x) (b ∷ y) (suc j) h = below_get_or x y j h.1

pub below_add : (x y : List ℕ) → length x ≡ length y → IsAtOrBelow x (add x y)
below_add [] y h = tt
below_add (a ∷ x) [] h = absurd (omega arith)
below_add (a ∷ x) (b ∷ y) h =
    let e : length x ≡ length y = omega arith in
    (omega arith, below_add x y e)

pub add_below : (x y z : List ℕ) → length x ≡ length y → IsAtOrBelow y z → IsAtOrBelow (add x y) (add x z)
add_below [] y z h k = tt
add_below (a ∷ x) [] z h k = absurd (omega arith)
add_below (a ∷ x) (b ∷ y) [] h k = absurd k
add_below (a ∷ x) (b ∷ y) (c ∷ z) h k =
    let e : length x ≡ length y = omega arith in
    (omega (arith, k.0), add_below x y z e k.1)

-- what is missing from x to y
pub difference : (x y : List ℕ) → IsAtOrBelow x y → (d : List ℕ) × (length x ≡ length d) × (add x d ≡ y)
difference [] [] h = ([], refl, refl)
difference [] (b ∷ y) h = absurd h
difference (a ∷ x) [] h = absurd h
difference (a ∷ x) (b ∷ y) h =
    let r = difference x y h.1 in
    let e : a + (b - a) ≡ b = omega (arith, h.0) in
    let t : add x r.0 ≡ y = r.2 in
    ((b - a) ∷ r.0, ap suc r.1, cc)

-- ---- one component more

add-take_suc : (x y : List ℕ) (i : ℕ) → i < length x → i < length y → add (take (suc i) x) (take (suc i) y) ≡ add (take i x) (take i y) ++ ((get_or x i 0 + get_or y i 0) ∷ [])
add-take_suc [] y i h k = absurd (omega arith)
add-take_suc (a ∷ x) [] i h k = absurd (omega arith)
add-take_suc (a ∷ x) (b ∷ y) zero h k = refl
add-take_suc (a ∷ x) (b ∷ y) (suc i) h k =
    let l : i < length x = omega arith in
    let m : i < length y = omega arith in
    ap (λ z. (a + b) ∷ z) (add-take_suc x y i l m)

pub add-take_more : (x y : List ℕ) (i : ℕ) → i < length x → i < length y → add (take (i + 1) x) (take (i + 1) y) ≡ add (take i x) (take i y) ++ ((get_or x i 0 + get_or y i 0) ∷ [])
add-take_more x y i h k = rw add-one (add-take_suc x y i h k)

sides-take_suc : (row : List ℤ) (x : List ℕ) (i : ℕ) → i < length row → (up (take (suc i) row) x ≡ up (take i row) x + above (get_or row i (pos 0)) * get_or x i 0) × (down (take (suc i) row) x ≡ down (take i row) x + below (get_or row i (pos 0)) * get_or x i 0)
sides-take_suc [] x i h = absurd (omega arith)
sides-take_suc (c ∷ row) [] zero h = (omega arith, omega arith)
sides-take_suc (c ∷ row) [] (suc i) h = (omega arith, omega arith)
sides-take_suc (c ∷ row) (a ∷ x) zero h = (omega arith, omega arith)
sides-take_suc (c ∷ row) (a ∷ x) (suc i) h =
    let l : i < length row = omega arith in
    let r = sides-take_suc row x i l in
    (omega (arith, r.0), omega (arith, r.1))

pub sides-take_more : (row : List ℤ) (x : List ℕ) (i : ℕ) → i < length row → (up (take (i + 1) row) x ≡ up (take i row) x + above (get_or row i (pos 0)) * get_or x i 0) × (down (take (i + 1) row) x ≡ down (take i row) x + below (get_or row i (pos 0)) * get_or x i 0)
sides-take_more row x i h = rw add-one (sides-take_suc row x i h)
