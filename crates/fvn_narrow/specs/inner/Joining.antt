-- Children that are added to earlier ones.
use Rattle.std.specs.Prelude.{◌≡◌, ◌++◌, List}
use Rattle.fvn_cover.specs.declared.variant.Variant.{Variant}
use Rattle.fvn_exploring.specs.declared.ends.ExpandEnd.{ExpandEnd}
use Rattle.fvn_exploring.specs.declared.ends.Expansion.{Expansion}

-- the children so far and those of the expansion, and its end
pub record AreJoined (before : List Variant) (next : Expansion) (all : List Variant) (end : ExpandEnd) : Type 0 where
  pub children : all ≡ before ++ next.children
  pub end_is : end ≡ next.end
