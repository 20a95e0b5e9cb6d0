-- What is left to do of a cursor.
use Rattle.std.specs.Prelude.{ℕ}
use Rattle.fvn_purify.specs.Cursor.{Cursor}
use Rattle.fvn_purify.specs.inner.Choices.{weights}

-- a number that falls with each step of the cursor
abbrev pub cursor_weight : Cursor → ℕ
cursor_weight c = weights c.declarations c.outline c.partials
