-- The search for the last colon.
use Rattle.std.specs.Prelude.{ℕ, ◌+◌, ◌==◌, if◌then◌else◌, [], ◌∷◌, Option, Some}
use Rattle.fvn_syntax.specs.Pieces.{Text}

-- the place of the last colon, where i bytes were passed and the last colon so far is found
abbrev pub last_colon_from : (found : Option ℕ) → ℕ → Text → Option ℕ
last_colon_from found i [] = found
last_colon_from found i (b ∷ w) = last_colon_from (if b == 58 then Some i else found) (i + 1) w
