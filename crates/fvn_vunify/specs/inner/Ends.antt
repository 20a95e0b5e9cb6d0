-- Which end comes first.
use Rattle.std.specs.Prelude.{Bool, true, false, if◌then◌else◌, List}
use Rattle.fvn_flat.specs.Bindings.{Bindings}
use Rattle.fvn_flat.specs.declared.solver.Pairs.{Pairs}
use Rattle.fvn_flat.specs.declared.solver.SolveEnd.{SolveEnd}
use Rattle.fvn_flat.specs.declared.solver.SolveEnd.TheVariants.{Complete as SolvedAll, Basis as BasisOfSolver}
use Rattle.fvn_flat.specs.declared.solver.SolveEnd.TheVariants.{Unifiers as UnifiersOfSolver, Size as SizeOfSolver}
use Rattle.fvn_exploring.specs.declared.ends.ExpandEnd.{ExpandEnd}
use Rattle.fvn_exploring.specs.declared.ends.ExpandEnd.TheVariants.{Whole, Steps, Size, Basis, Unifiers}
use Rattle.fvn_exploring.specs.declared.ends.ExploreEnd.{ExploreEnd}
use Rattle.fvn_exploring.specs.declared.ends.ExploreEnd.TheVariants.{Complete, Levels, Variants}
use Rattle.fvn_exploring.specs.declared.ends.ExploreEnd.TheVariants.{Steps as StepsThere, Size as SizeThere}
use Rattle.fvn_exploring.specs.declared.ends.ExploreEnd.TheVariants.{Basis as BasisThere, Unifiers as UnifiersThere}
use Rattle.fvn_exploring.specs.Ends.{explore_end}

-- whether nothing stopped the search
abbrev pub is_whole : ExpandEnd → Bool
is_whole Whole = true
is_whole (Steps start end) = false
is_whole (Size cause) = false
is_whole (Basis f system) = false
is_whole (Unifiers given list) = false

-- whether every variant is covered
abbrev pub is_complete : ExploreEnd → Bool
is_complete Complete = true
is_complete (Levels v) = false
is_complete (Variants v) = false
is_complete (StepsThere start end) = false
is_complete (SizeThere cause) = false
is_complete (BasisThere f system) = false
is_complete (UnifiersThere given list) = false

-- the first of two ends that stopped the search
abbrev pub first_end : ExpandEnd → ExpandEnd → ExpandEnd
first_end end later = if is_whole end then later else end

-- the end at the pairs that were given to the solver
abbrev pub end_of_pairs : Pairs → List Bindings → SolveEnd → ExpandEnd
end_of_pairs given list SolvedAll = Whole
end_of_pairs given list (BasisOfSolver f system) = Basis f system
end_of_pairs given list UnifiersOfSolver = Unifiers given list
end_of_pairs given list (SizeOfSolver cause) = Size cause

-- the end of an exploration, or where that is complete the one at the pairs
abbrev pub end_after : ExploreEnd → ExpandEnd → ExploreEnd
end_after end pairs = if is_complete end then explore_end pairs else end
