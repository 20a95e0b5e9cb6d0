-- The law of choices.
use Rattle.std.specs.Prelude.{◌≡◌, ℕ, ◌==◌, List, map, filter}
use Rattle.std.specs.List.{enumerate_from}
use Rattle.std.specs.Int.{bit_at}
use Rattle.fvn_acunify.specs.ValidChoice.{chosen}

-- the solutions that a number chooses are, in their order, those at the places of its set bits
abbrev pub ChosenByBits : Type 0
ChosenByBits =
    (b : ℕ) (basis : List (List ℕ))
    → chosen b basis ≡ map (λ p. p.1) (filter (λ p. bit_at b p.0 == 1) (enumerate_from 0 basis))
