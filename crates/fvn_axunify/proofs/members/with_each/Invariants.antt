-- The list with the unifiers so far.
use Rattle.std.proofs.Common.{◌≤◌, length}
use Rattle.std.specs.Prelude.{All}
use Rattle.fvn_axunify.specs.inner.Members.{AreKept, Grows, HasInstancesOf}
use Rattle.fvn_axunify.proofs.members.with_each.Given as goal

abbrev pub invariant-loop-r : goal.invariant-loop-r
invariant-loop-r l = record {
  are : AreKept l.task.sig.now l.task.problem.now l.task.vars.now l.task.first l.all;
  grows : Grows l.task.sig.now l.task.problem.now l.task.vars.now l.fn.kept l.all;
  few : length l.all ≤ l.task.limits.unifiers;
  each : All (λ s. HasInstancesOf l.task.sig.now l.task.problem.now l.task.vars.now s l.all) l.yielded;
}
