-- Operators with the same declarations.
use Rattle.std.specs.Prelude.{◌≡◌, ◌<◌}
use Rattle.fvn_terms.specs.declared.plain.OpId.{OpId}
use Rattle.fvn_terms.specs.declared.declarations.Declarations.{Declarations}
use Rattle.fvn_terms.specs.Signature.{declared}

-- the two operators have the same axioms and the same declarations
abbrev pub AreAlike : Declarations → OpId → OpId → Type 0
AreAlike d f g = declared d f ≡ declared d g

-- an earlier operator is so alike
abbrev pub HasEarlierAlike : Declarations → OpId → Type 0
HasEarlierAlike d g = (f : OpId) × ((f.0 < g.0) × AreAlike d f g)
