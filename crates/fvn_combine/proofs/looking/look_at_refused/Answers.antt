-- What is handed on is of the task.
use Rattle.std.proofs.Common.{sym, subst}
use Rattle.std.specs.Prelude.{IfSome}
use Rattle.fvn_combine_nodes.specs.States.{IsClosed, class_of}
use Rattle.fvn_combine_leaves.specs.Bases.{HaveAlive}
use Rattle.fvn_combine_leaves.specs.Readings.{IsReading}
use Rattle.fvn_combine.specs.Tasks.{Combining}
use Rattle.fvn_combine.proofs.looking.look_at_refused.Goals as goal

pub bases_from_last-requires-clause-closed : goal.bases_from_last-requires-clause-closed
bases_from_last-requires-clause-closed c = subst (λ (k : Combining). IsClosed k.declarations k.table c.args.state.now) (sym c.task.view_is) c.requires.near.closed

pub bases_from_last-requires-clause-reading : goal.bases_from_last-requires-clause-reading
bases_from_last-requires-clause-reading c = subst (λ (k : Combining). IsReading k.declarations k.table (class_of c.args.state.now) c.args.reading) (sym c.task.view_is) c.requires.reading

pub look_at_bases-requires-clause-alive : goal.look_at_bases-requires-clause-alive
look_at_bases-requires-clause-alive c =
    subst (λ (k : Combining). HaveAlive k.declarations k.table c.args.state.now c.args.reading.sums c.in-Some.bases.items) c.task.view_is
    (subst (λ o. IfSome o (λ v. HaveAlive c.task.inside.sig.now c.task.inside.table c.args.state.now c.args.reading.sums v.items)) c.in-Some.is c.in_ok-bases.ensures.alive)
