-- The text of a verdict on the pairs of a problem.
use Rattle.std.specs.Prelude.{ℕ, List, ◌++◌, Option, Some, None, codes, decimal}

-- what is said where no pair differs, or where the pair with this number is the first
abbrev pub verdict_text : Option ℕ → List ℕ
verdict_text None = codes "yes"
verdict_text (Some number) = codes "no " ++ decimal number
