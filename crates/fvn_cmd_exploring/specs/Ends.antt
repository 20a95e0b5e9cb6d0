-- How an answer over an exploration ends.
use Rattle.std.specs.Prelude.{ℕ, Option, Some, None}
use Rattle.fvn_base.specs.declared.limits.TheConstants.{TERM_SYMBOLS, UNIFIERS}
use Rattle.fvn_exploring.specs.declared.ends.ExploreEnd.{ExploreEnd}
use Rattle.fvn_exploring.specs.declared.ends.ExploreEnd.TheVariants as explored
use Rattle.fvn_answer.specs.declared.end.End.{End}
use Rattle.fvn_answer.specs.declared.end.End.TheVariants.{Complete, Levels, Variants, Steps, Size, Basis, Unifiers, Sorts}
use Rattle.fvn_cmd_words.specs.declared.reach.Reach.{Reach}

-- The end that is told of that of an exploration, after so many lines: a bound that was met; else the first equation that
-- loses a sort, if one does; else that all were found.
abbrev pub end_told : Reach → ExploreEnd → Option ℕ → ℕ → End
end_told reach explored.Complete None count = Complete count
end_told reach explored.Complete (Some n) count = Sorts n
end_told reach (explored.Levels v) loss count = Levels reach.levels
end_told reach (explored.Variants v) loss count = Variants reach.variants
end_told reach (explored.Steps start end) loss count = Steps reach.steps start
end_told reach (explored.Size cause) loss count = Size TERM_SYMBOLS
end_told reach (explored.Basis f system) loss count = Basis f
end_told reach (explored.Unifiers given list) loss count = Unifiers UNIFIERS
