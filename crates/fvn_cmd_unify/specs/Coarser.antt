-- What is shown before `bound basis`: all that joins more than the partition at which the search ended.
use Rattle.std.specs.Prelude.{List, Any}
use Rattle.fvn_terms.specs.declared.plain.OpId.{OpId}
use Rattle.fvn_terms.specs.Substitution.{Substitution}
use Rattle.fvn_lindio.specs.declared.system.System.{System}
use Rattle.fvn_flat.specs.Solving.{problem_of}
use Rattle.fvn_flat.specs.declared.solver.Pairs.{Pairs}
use Rattle.fvn_problems.specs.declared.problem.Problem.{Problem}
use Rattle.fvn_module.specs.Contents.{Contents}
use Rattle.fvn_axunify.specs.CombineCoarser.{IsEndedAt, Joins, JoinsMore}
use Rattle.fvn_cmd_unify.specs.Asked.{Unifies, IsInstanceOf, AreFlattened}

-- The search came to a partition of the terms of the problem in flat form under which f's sum system is refused, and each
-- unifier that joins all that it joins, and more, is an instance of one of these.
pub record HasCoarserOnes (m : Contents) (p : Problem) (values : List Substitution) (f : OpId) : Type 0 where
  pub given : Pairs
  pub is_given : AreFlattened m p given
  pub system : System
  pub at : IsEndedAt m.signature given f system
  pub held : (u : Substitution) → Unifies m p u → Joins m.signature (problem_of given) at.cause.class u →
      JoinsMore m.signature given f system at u → Any (IsInstanceOf m p u) values
