-- Every unifier is an instance of one that is kept, or is still to come; and what was given is kept.
use Rattle.std.proofs.Common.{◌≡◌, ◌<◌, ◌⊎◌, length}
use Rattle.fvn_terms.specs.Substitution.{Substitution}
use Rattle.fvn_terms.specs.Unifiers.{IsUnifier}
use Rattle.fvn_flat.specs.Solving.{problem_of}
use Rattle.fvn_combine.specs.Advancing.{IsOf, IsToCome}
use Rattle.fvn_combine.specs.Work.{work_left}
use Rattle.fvn_axunify.specs.inner.Members.{AreKept, IsReached}
use Rattle.fvn_axunify.specs.Searched.{IsRun}
use Rattle.fvn_axunify.proofs.search.run_through.Given as goal

abbrev pub invariant-next : goal.invariant-next
invariant-next l = record {
  of : IsOf l.task.sig.now l.task.problem.now l.task.first l.task.limits.size l.combiner;
  general : l.combiner.combining.general ≡ l.initial.combiner.combining.general;
  are : AreKept l.task.sig.now l.task.problem.now l.task.vars.now l.task.first l.kept;
  few : length l.kept < l.task.limits.unifiers;
  all : (u : Substitution) → IsUnifier l.task.sig.now (problem_of l.task.problem.now) u →
      IsReached l.task.sig.now l.task.problem.now l.task.vars.now l.kept u ⊎ IsToCome l.combiner u;
  run : IsRun l.task.sig.now l.task.problem.now (IsReached l.task.sig.now l.task.problem.now l.task.vars.now l.kept) l.initial.combiner l.combiner;
}

abbrev pub decreases-next : goal.decreases-next
decreases-next l = work_left l.combiner
