-- At which places of a list of terms a symbol stands.
use Rattle.std.specs.Prelude.{ℕ, ◌+◌, List, [], ◌∷◌, ◌++◌, map, replicate}
use Rattle.fvn_forms.specs.Flat.{FlatTerm, plain}
use Rattle.fvn_cover_counts.specs.declared.symbols.Symbol.{Symbol}
use Rattle.fvn_cover_counts.specs.Weights.{times}

-- how often the symbol stands in each of the terms
abbrev pub column : Symbol → List FlatTerm → List ℕ
column s ts = map (λ t. times s (plain t)) ts

-- numbers from i on, each as often as its count says
abbrev pub places_from : ℕ → List ℕ → List ℕ
places_from i [] = []
places_from i (n ∷ ns) = replicate n i ++ places_from (i + 1) ns

-- the numbers of the terms, from 0 on, each as often as the symbol stands in its term
abbrev pub places : Symbol → List FlatTerm → List ℕ
places s ts = places_from 0 (column s ts)
