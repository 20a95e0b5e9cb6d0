-- All that an answer of a solver promises.
use Rattle.std.specs.Prelude.{◌≤◌, ℕ}
use Rattle.fvn_base.specs.declared.limits.TheConstants.{NEXT_FRESH}
use Rattle.fvn_terms.specs.declared.declarations.Declarations.{Declarations}
use Rattle.fvn_flat.specs.Drawn.{IsDrawn}
use Rattle.fvn_flat.specs.Solving.{AreUnifiers, AreDrawn, AreBindings, AreNumbered, AreApart, AreComplete, HasCause}
use Rattle.fvn_flat.specs.declared.solver.Pairs.{Pairs}
use Rattle.fvn_flat.specs.declared.solver.Solved.{Solved}

-- what the solver of a signature promises of its answer, with these limits: the laws of solvers, drawn by what solved lists unfold to
pub record IsSolvedAs (d : Declarations) (given : Pairs) (first most_unifiers most_symbols : ℕ) (r : Solved) : Type 0 where
  pub sound : AreUnifiers d given r
  pub drawn : AreDrawn d given (IsDrawn d) r
  pub binds : AreBindings d given r
  pub numbered : AreNumbered d given first r
  pub next : first ≤ r.next_fresh
  pub bounded : r.next_fresh ≤ NEXT_FRESH
  pub apart : AreApart d given r
  pub complete : AreComplete d given r
  pub cause : HasCause d given most_unifiers most_symbols r
