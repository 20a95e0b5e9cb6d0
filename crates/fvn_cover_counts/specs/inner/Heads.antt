-- The symbol at the top of a flat form.
use Rattle.std.specs.Prelude.{ℕ, ◌-◌, true, false, length}
use Rattle.fvn_forms.specs.Flat.{FlatTerm, fvar, fapp, funpack}
use Rattle.fvn_cover_counts.specs.declared.symbols.Symbol.{Symbol}
use Rattle.fvn_cover_counts.specs.declared.symbols.Symbol.TheVariants.{Variable, Operator}

-- the symbol at the top
abbrev pub symbol_of : FlatTerm → Symbol
symbol_of (fvar x) = Variable x
symbol_of (fapp f joined ts) = Operator f

-- how often that symbol stands there beyond once
abbrev pub further : FlatTerm → ℕ
further (fvar x) = 0
further (fapp f true ts) = length (funpack ts) - 2
further (fapp f false ts) = 0
