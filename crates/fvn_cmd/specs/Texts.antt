-- The texts that the program writes.
use Rattle.std.specs.Prelude.{ℕ, ◌≡◌, List, [], ◌∷◌, ◌++◌}
use Rattle.fvn_cmd.specs.declared.status.Status.{Status}
use Rattle.fvn_cmd.specs.declared.answer.Text.{Text}
use Rattle.fvn_cmd.specs.declared.answer.Text.TheVariants.{Fixed, Made}

-- its bytes, fixed or made
abbrev pub bytes_of : Text → List ℕ
bytes_of (Fixed bytes) = bytes.now
bytes_of (Made bytes) = bytes.items

-- a line ends with a line feed
abbrev pub line : List ℕ → List ℕ
line text = text ++ 10 ∷ []

-- the text goes with this status, and is this one
abbrev pub Is : Status → List ℕ → Status → List ℕ → Type 0
Is status text s t = (s ≡ status) × (t ≡ text)
