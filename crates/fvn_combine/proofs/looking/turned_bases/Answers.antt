-- What is handed on is of the task.
use Rattle.std.proofs.Common.{sym, subst}
use Rattle.std.specs.Prelude.{IfSome}
use Rattle.fvn_combine_nodes.specs.States.{IsClosed, class_of}
use Rattle.fvn_combine_leaves.specs.Bases.{HaveAlive}
use Rattle.fvn_combine_leaves.specs.Readings.{IsReading}
use Rattle.fvn_combine.specs.Tasks.{Combining}
use Rattle.fvn_combine.proofs.looking.turned_bases.Goals as goal

pub bases_from_last-requires-clause-closed : goal.bases_from_last-requires-clause-closed
bases_from_last-requires-clause-closed c = subst (λ (k : Combining). IsClosed k.declarations k.table c.args.state.now) (sym c.task.view_is) c.requires.near.closed

pub bases_from_last-requires-clause-reading : goal.bases_from_last-requires-clause-reading
bases_from_last-requires-clause-reading c = subst (λ (k : Combining). IsReading k.declarations k.table (class_of c.args.state.now) c.args.reading.now) (sym c.task.view_is) c.requires.reading

pub returns-clause-alive : goal.returns-clause-alive
returns-clause-alive c = subst (λ (k : Combining). IfSome c.in_ok-found.found (λ v. HaveAlive k.declarations k.table c.args.state.now c.args.reading.now.sums v.items)) c.task.view_is c.in_ok-found.ensures.alive
