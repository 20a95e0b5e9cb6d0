-- What one step of a cursor finds.
use Rattle.std.specs.Prelude.{◌<◌, List, Some, None}
use Rattle.fvn_terms.specs.declared.declarations.Declarations.{Declarations}
use Rattle.fvn_purify.specs.Parts.{Outline}
use Rattle.fvn_purify.specs.Cursor.{Cursor, HasSamePending, IsGivenFrom}
use Rattle.fvn_purify.specs.Weight.{cursor_weight}
use Rattle.fvn_purify.specs.declared.choosing.Partial.{Partial}
use Rattle.fvn_purify.specs.declared.cursor.Found.{Found}
use Rattle.fvn_purify.specs.declared.cursor.Found.TheVariants.{Nothing, More, Split}

-- the cursor with these parts
abbrev pub cursor : Declarations → Outline → List Partial → Cursor
cursor d c partials = record { declarations = d; outline = c; partials = partials }

-- nothing was to come; or the same is to come, or the split that was found is not any more, and less is left to do
abbrev pub IsFoundFrom : Cursor → Cursor → Found → Type 0
IsFoundFrom before after Nothing = IsGivenFrom before after None
IsFoundFrom before after More = HasSamePending before after × (cursor_weight after < cursor_weight before)
IsFoundFrom before after (Split given) = IsGivenFrom before after (Some given) × (cursor_weight after < cursor_weight before)
