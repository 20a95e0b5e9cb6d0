-- Weights fall.
use Rattle.std.proofs.Common.{◌≡◌, ℕ, suc, ◌+◌, ◌-◌, ◌*◌, ◌^◌, ◌<◌, ◌≤◌, List, [], ◌∷◌, map, length, sum_by, sym, ap, ◌∙◌, arith}
use Rattle.std.proofs.Math.Nat.{one-le-pow, mul-lt-mul_of_pos_right, add-mul}
use Rattle.std.proofs.lemmas.Grind.{pow_more}
use Rattle.std.proofs.lemmas.List.Sums.{sum_by-cons}
use Rattle.fvn_combine_tree.proofs.Powers.{powers_fall}

-- what each of several weighs, as often as there are some
pub sum_by-same : {A B : Type 0} (weight : B → ℕ) (f : A → B) (w : ℕ) → ((x : A) → weight (f x) ≡ w) → (xs : List A) → sum_by weight (map f xs) ≡ length xs * w
sum_by-same weight f w h [] = omega arith
sum_by-same weight f w h (x ∷ xs) =
    let one = h x in
    let rest = sum_by-same weight f w h xs in
    let whole = sum_by-cons weight (f x) (map f xs) in
    whole ∙ ap (λ n. n + sum_by weight (map f xs)) one ∙ ap (λ n. w + n) rest ∙ sym (more (length xs) w)
  where
    more : (n w : ℕ) → suc n * w ≡ w + n * w
    more n w = grind arith

-- fewer than b times a power of b weigh less than the next power
pub choices_fall : (b n m k : ℕ) → n < b → k < m → 1 ≤ b → n * b ^ (m - suc k) < b ^ (m - k)
choices_fall b n m k few less some =
    let e : b ^ (m - k) ≡ b ^ (m - suc k) * b = ap (λ n. b ^ n) (let q : m - k ≡ (m - suc k) + 1 = omega arith in q) ∙ pow_more b (m - suc k) in
    below n b (b ^ (m - suc k)) few (one-le-pow (m - suc k) b some) e
  where
    below : (n b p : ℕ) {q : ℕ} → n < b → 1 ≤ p → q ≡ p * b → n * p < q
    below n b p few some e = grind arith

times : (x y z p : ℕ) → x + y < z → 1 ≤ p → x * p + y * p < z * p
times x y z p h some =
    let r : (x + y) * p < z * p = mul-lt-mul_of_pos_right h (omega arith) in
    let e : (x + y) * p ≡ x * p + y * p = add-mul x y p in
    omega arith

-- a power of three is more than two lower ones together, also after a factor
pub two_fall : (a b m p : ℕ) → a < m → b < m → 1 ≤ p → 3 ^ a * p + 3 ^ b * p < 3 ^ m * p
two_fall a b m p h k some = times (3 ^ a) (3 ^ b) (3 ^ m) p (powers_fall a b m h k) some

pub one_falls : (a m p : ℕ) → a < m → 1 ≤ p → 3 ^ a * p < 3 ^ m * p
one_falls a m p h some = let t = two_fall a a m p h h some in omega arith

-- a power weighs less than a later one, with a factor
pub leaf_falls : (b n o : ℕ) → 3 ≤ b → b ^ n < 3 ^ o * b ^ suc n
leaf_falls b n o big =
    let p : 1 ≤ b ^ n = one-le-pow n b (omega arith) in
    let q : 1 ≤ 3 ^ o = one-le-pow o 3 (omega arith) in
    let e : b ^ suc n ≡ b ^ n * b = ap (λ n. b ^ n) (let q : suc n ≡ n + 1 = omega arith in q) ∙ pow_more b n in
    wide (b ^ n) (3 ^ o) b e p q big
  where
    wide : (p q b : ℕ) {r : ℕ} → r ≡ p * b → 1 ≤ p → 1 ≤ q → 3 ≤ b → p < q * r
    wide p q b e some one big = grind arith
