-- Words that gain the bits of others.
use Rattle.std.specs.Prelude.{ℕ, bit_or, nat_eq, if◌then◌else◌}
use Rattle.std.specs.Int.{bit_at}

-- the word, with the other's bits where it has bit k
abbrev pub gaining : ℕ → ℕ → ℕ → ℕ
gaining k other word = if nat_eq (bit_at word k) 1 then bit_or word other else word
