-- What is told of the sorts of a module's equations.
use Rattle.std.specs.Prelude.{ℕ, Option, MatchOption}
use Rattle.fvn_rewrite_laws.specs.Losses.{AreSortDecreasing, IsFirstLoss}
use Rattle.fvn_module.specs.Contents.{Contents}
use Rattle.fvn_theory.specs.Equations.{equations_of}

-- where there is no number, each equation is sort-decreasing; else this is the number of the first that loses a sort
abbrev pub IsLossOf : Contents → Option ℕ → Type 0
IsLossOf m n = MatchOption n
    (AreSortDecreasing m.signature (equations_of m.equations))
    (IsFirstLoss m.signature (equations_of m.equations))
