-- Where nothing can be rewritten.
use Rattle.std.specs.Prelude.{[]}
use Rattle.fvn_terms.specs.declared.declarations.Declarations.{Declarations}
use Rattle.fvn_theory.specs.declared.bounds.Bounds.{Bounds}
use Rattle.fvn_exploring.specs.Setting.{Setting}

-- these declarations and bounds, without equations
abbrev pub without_equations : Declarations → Bounds → Setting
without_equations d bounds = record { declarations = d; equations = []; fixed = []; bounds = bounds; unifiers = 1 }
