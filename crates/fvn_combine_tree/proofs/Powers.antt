-- Powers of three.
use Rattle.std.proofs.Common.{◌≡◌, ℕ, zero, suc, ◌+◌, ◌*◌, ◌^◌, ◌<◌, ◌≤◌, ap, ◌∙◌, arith}
use Rattle.std.proofs.Math.Nat.{pow-le-pow_right, one-le-pow}
use Rattle.std.proofs.lemmas.Grind.{pow_more}

-- a power of three is more than two lower ones together
pub powers_fall : (a b m : ℕ) → a < m → b < m → 3 ^ a + 3 ^ b < 3 ^ m
powers_fall a b zero h k = absurd (omega arith)
powers_fall a b (suc m) h k =
    let three : zero < 3 = omega arith in
    let x : 3 ^ a ≤ 3 ^ m = pow-le-pow_right three (omega arith) in
    let y : 3 ^ b ≤ 3 ^ m = pow-le-pow_right three (omega arith) in
    let e : 3 ^ suc m ≡ 3 ^ m * 3 = ap (λ n. 3 ^ n) (let q : suc m ≡ m + 1 = omega arith in q) ∙ pow_more 3 m in
    let p : 1 ≤ 3 ^ m = one-le-pow m 3 three in
    omega arith
