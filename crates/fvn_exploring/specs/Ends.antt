-- How an expansion's end becomes an exploration's.
use Rattle.fvn_exploring.specs.declared.ends.ExpandEnd.{ExpandEnd}
use Rattle.fvn_exploring.specs.declared.ends.ExpandEnd.TheVariants.{Whole, Steps, Size, Basis, Unifiers}
use Rattle.fvn_exploring.specs.declared.ends.ExploreEnd.{ExploreEnd}
use Rattle.fvn_exploring.specs.declared.ends.ExploreEnd.TheVariants.{Complete, Steps as StepsThere, Size as SizeThere}
use Rattle.fvn_exploring.specs.declared.ends.ExploreEnd.TheVariants.{Basis as BasisThere, Unifiers as UnifiersThere}

-- the end of an exploration that stops where an expansion did
abbrev pub explore_end : ExpandEnd → ExploreEnd
explore_end Whole = Complete
explore_end (Steps start end) = StepsThere start end
explore_end (Size cause) = SizeThere cause
explore_end (Basis f system) = BasisThere f system
explore_end (Unifiers given list) = UnifiersThere given list
