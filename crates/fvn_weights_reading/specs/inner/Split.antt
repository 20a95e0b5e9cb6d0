-- Rows of pieces that are cut into entries.
use Rattle.std.specs.Prelude.{◌≡◌, ◌≢◌, ℕ, suc, IsTrue, if◌then◌else◌, List, [], ◌∷◌, ◌++◌}
use Rattle.std.specs.List.{AllByRecursion}
use Rattle.fvn_lex.specs.Cut.{Piece}
use Rattle.fvn_syntax.specs.Pieces.{comma}
use Rattle.fvn_weights_reading.specs.declared.entry.Entry.{Entry}
use Rattle.fvn_weights_reading.specs.Spelling.{is_number, spell_entry, spell_further, spell_entries, IsEntry}

-- how many of the first pieces are numbers
abbrev pub numbers_in : List Piece → ℕ
numbers_in [] = 0
numbers_in (p ∷ ps) = if is_number p then suc (numbers_in ps) else 0

-- the row is these numbers, of which there are some, and then the rest, which begins with no number
pub record AreNumbersSplit (row numbers rest : List Piece) : Type 0 where
  pub some : numbers ≢ []
  pub are : AllByRecursion (λ p. IsTrue (is_number p)) numbers
  pub row_is : row ≡ numbers ++ rest
  pub ends : numbers_in rest ≡ 0

-- the row is the entry and then the rest, which begins with no number
pub record IsEntrySplit (row : List Piece) (e : Entry) (rest : List Piece) : Type 0 where
  pub entry : IsEntry e
  pub spelled : row ≡ spell_entry e ++ rest
  pub ends : numbers_in rest ≡ 0

-- the row begins with no entry
abbrev pub BeginsWithNoEntry : List Piece → Type 0
BeginsWithNoEntry row = (e : Entry) (rest : List Piece) → IsEntry e → row ≡ spell_entry e ++ rest → ⊥

-- the row is these entries
pub record IsEntriesRow (row : List Piece) (es : List Entry) : Type 0 where
  pub entries : AllByRecursion IsEntry es
  pub spelled : row ≡ spell_entries es

-- the row is no entries
abbrev pub IsNoEntriesRow : List Piece → Type 0
IsNoEntriesRow row = (es : List Entry) → IsEntriesRow row es → ⊥

-- the entries stand at the front of the row, and then the rest
pub record IsFront (row : List Piece) (es : List Entry) (rest : List Piece) : Type 0 where
  pub entries : AllByRecursion IsEntry es
  pub spelled : comma ∷ row ≡ spell_further es ++ rest

-- the rest is what remains of any entries that the row is
abbrev pub Decides : List Piece → List Piece → Type 0
Decides row rest = (es : List Entry) → AllByRecursion IsEntry es → comma ∷ row ≡ spell_further es →
    (more : List Entry) × (AllByRecursion IsEntry more × (rest ≡ spell_further more))
