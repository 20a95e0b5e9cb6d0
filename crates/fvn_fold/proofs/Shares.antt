-- Work that is shared.
use Rattle.std.proofs.Common.{◌≤◌, ◌*◌, ◌/◌, ℕ, arith}
use Rattle.std.proofs.lemmas.Nat.{mul-le}
use Rattle.std.proofs.Math.Nat.{div-mul-le_self}

-- no more shares than the work has of the size that is worth a thread
pub shares_within : (count work worth : ℕ) → count ≤ work / worth → count * worth ≤ work
shares_within count work worth h = omega (arith, mul-le count worth (work / worth) worth h (omega arith), div-mul-le_self work worth)
