-- Numbers that stop at the greatest number of 64 bits.
use Rattle.std.specs.Prelude.{ℕ, ◌-◌, ◌^◌, min}

-- the number, or the greatest one
abbrev pub capped : ℕ → ℕ
capped n = min n (2 ^ 64 - 1)
