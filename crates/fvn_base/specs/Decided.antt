-- What holds or does not.
use Rattle.std.specs.Prelude.{◌⊎◌}

-- the fact holds, or it is refuted
abbrev pub Decided : Type 0 → Type 0
Decided P = P ⊎ (P → ⊥)
