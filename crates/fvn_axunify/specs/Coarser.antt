-- What an answer holds where the search for it ended at a refused sum system.
use Rattle.std.specs.Prelude.{◌≡◌}
use Rattle.fvn_terms.specs.declared.plain.OpId.{OpId}
use Rattle.fvn_terms.specs.declared.declarations.Declarations.{Declarations}
use Rattle.fvn_terms.specs.Substitution.{Substitution}
use Rattle.fvn_terms.specs.Unifiers.{IsUnifier}
use Rattle.fvn_lindio.specs.declared.system.System.{System}
use Rattle.fvn_flat.specs.Solving.{problem_of}
use Rattle.fvn_flat.specs.declared.solver.Pairs.{Pairs}
use Rattle.fvn_flat.specs.declared.solver.Solved.{Solved}
use Rattle.fvn_flat.specs.declared.solver.SolveEnd.TheVariants.{Basis}
use Rattle.fvn_combine.specs.Coarser.{IsEndedAt, Joins, JoinsMore}
use Rattle.fvn_axunify.specs.Searched.{IsAnswered}

-- Each unifier that joins all that the partition joins at which the search ended, and more, is held.
pub record HoldsCoarser (d : Declarations) (given : Pairs) (Holds : Substitution → Type 0) (f : OpId) (system : System) : Type 0 where
  pub at : IsEndedAt d given f system
  pub held : (u : Substitution) → IsUnifier d (problem_of given) u →
      Joins d (problem_of given) at.cause.class u → JoinsMore d given f system at u → Holds u

-- so it is of an answer that ends at a refused sum system
abbrev pub HoldsCoarserOnes : Declarations → Pairs → Solved → Type 0
HoldsCoarserOnes d given r = (f : OpId) (system : System) → r.end ≡ Basis f system → HoldsCoarser d given (IsAnswered d given r) f system
