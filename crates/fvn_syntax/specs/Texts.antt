-- Places in lists of texts.
use Rattle.std.specs.Prelude.{ℕ, List, [], ◌∷◌, ◌++◌, length, Option, Some, None}
use Rattle.std.specs.List.{position_from}
use Rattle.std.specs.Str.{bytes_eq}
use Rattle.fvn_syntax.specs.Pieces.{Text}

-- the place of a text in a list of texts
abbrev pub place : List Text → Text → Option ℕ
place texts text = position_from (λ t. bytes_eq text t) 0 texts

-- the place, or where there is none the length
abbrev pub or_end : List Text → Option ℕ → ℕ
or_end texts None = length texts
or_end texts (Some i) = i

-- the place of a text, once it is put at the end where it is new
abbrev pub place_or_end : List Text → Text → ℕ
place_or_end texts text = or_end texts (place texts text)

-- the texts, with this one at the end where it has no place
abbrev pub unless_at : List Text → Text → Option ℕ → List Text
unless_at texts text None = texts ++ (text ∷ [])
unless_at texts text (Some i) = texts

-- the texts with this one, which is put at the end where it is new
abbrev pub with_text : List Text → Text → List Text
with_text texts text = unless_at texts text (place texts text)
