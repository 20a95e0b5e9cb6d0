-- What is told of what a solver found.
use Rattle.std.specs.Prelude.{ℕ, List}
use Rattle.std.specs.List.{AllZip}
use Rattle.fvn_base.specs.declared.limits.TheConstants.{TERM_SYMBOLS, UNIFIERS}
use Rattle.fvn_flat.specs.Bindings.{Bindings}
use Rattle.fvn_flat.specs.Solving.{substitution}
use Rattle.fvn_flat.specs.declared.solver.SolveEnd.{SolveEnd}
use Rattle.fvn_flat.specs.declared.solver.SolveEnd.TheVariants.{Complete as AllFound, Basis as NoBasis, Unifiers as Full, Size as TooLarge}
use Rattle.fvn_syntax.specs.Pieces.{Text}
use Rattle.fvn_problems.specs.declared.problem.Problem.{Problem}
use Rattle.fvn_module.specs.Contents.{Contents}
use Rattle.fvn_answer.specs.declared.end.End.{End}
use Rattle.fvn_answer.specs.declared.end.End.TheVariants.{Complete, Size, Basis, Unifiers}
use Rattle.fvn_cmd_unify.specs.Solutions.{IsLineOf}

-- the end that is told of a solver's end, after so many unifiers
abbrev pub end_told : SolveEnd → ℕ → End
end_told AllFound count = Complete count
end_told (NoBasis f system) count = Basis f
end_told Full count = Unifiers UNIFIERS
end_told (TooLarge cause) count = Size TERM_SYMBOLS

-- a line for each of the substitutions
abbrev pub AreLinesOfBindings : Contents → Problem → List Bindings → List Text → Type 0
AreLinesOfBindings m p unifiers lines = AllZip (λ s line. IsLineOf m p (substitution s) line) unifiers lines
