-- What is told of the cause of an end.
use Rattle.std.specs.Prelude.{◌≡◌}
use Rattle.fvn_combine.specs.declared.ending.Ended.{Ended}
use Rattle.fvn_combine.specs.declared.ending.Ended.TheVariants.{Basis as OfBasis, Size as OfSize}
use Rattle.fvn_combine.specs.declared.ending.CombineEnd.{CombineEnd}
use Rattle.fvn_combine.specs.declared.ending.CombineEnd.TheVariants.{Basis, Size}

-- the cause, word for word
abbrev pub told_of : Ended → CombineEnd
told_of (OfBasis f system) = Basis f system
told_of (OfSize list) = Size list

-- the end tells the cause
abbrev pub IsToldBy : Ended → CombineEnd → Type 0
IsToldBy e end = end ≡ told_of e
