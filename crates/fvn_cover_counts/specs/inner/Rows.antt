-- Rows of symbols, and what is noted in them.
use Rattle.std.specs.Prelude.{◌≡◌, ◌≢◌, ℕ, suc, if◌then◌else◌, List, [], ◌∷◌, ◌++◌}
use Rattle.fvn_cover_counts.specs.declared.symbols.Symbol.{Symbol}
use Rattle.fvn_cover_counts.specs.declared.rows.Row.{Row}
use Rattle.fvn_cover_counts.specs.Weights.{same_symbol}

-- the number of the first row of the symbol, or of all rows
abbrev pub position : Symbol → List Row → ℕ
position s [] = 0
position s (r ∷ rs) = if same_symbol r.symbol s then 0 else suc (position s rs)

-- the row with further places
abbrev pub extended : Row → List ℕ → Row
extended r more = record { symbol = r.symbol; places = r.places ++ more }

-- the rows with further places of the symbol, in a new row where it has none
abbrev pub noted : Symbol → List ℕ → List Row → List Row
noted s more [] = record { symbol = s; places = more } ∷ []
noted s more (r ∷ rs) = if same_symbol r.symbol s then extended r more ∷ rs else r ∷ noted s more rs

-- the places of the symbol
abbrev pub places_at : Symbol → List Row → List ℕ
places_at s [] = []
places_at s (r ∷ rs) = if same_symbol r.symbol s then r.places else places_at s rs

-- each row has places, and no later row is of its symbol
abbrev pub AreDistinct : List Row → Type 0
AreDistinct [] = Unit {0}
AreDistinct (r ∷ rs) = (r.places ≢ []) × (places_at r.symbol rs ≡ []) × AreDistinct rs

-- each symbol has further places
pub record Notes (before : List Row) (more : Symbol → List ℕ) (after : List Row) : Type 0 where
  pub at : (s : Symbol) → places_at s after ≡ places_at s before ++ more s
  pub distinct : AreDistinct before → AreDistinct after
