-- What a solver is: its signature and its limits.
use Rattle.std.specs.Prelude.{ℕ, ◌≤◌}
use Rattle.fvn_base.specs.declared.limits.TheConstants.{TERM_SYMBOLS}
use Rattle.fvn_terms.specs.declared.declarations.Declarations.{Declarations}

-- the signature in which it solves, the number of unifiers at which it stops, and the most symbols of a problem or a value
pub record Solver : Type 0 where
  pub declarations : Declarations
  pub most_unifiers : ℕ
  pub most_symbols : ℕ

-- it keeps at least one unifier, and no term of more symbols than terms may have
pub record IsSolver (s : Solver) : Type 0 where
  pub some : 1 ≤ s.most_unifiers
  pub small : s.most_symbols ≤ TERM_SYMBOLS
