-- A system is refused.
use Rattle.std.proofs.Common.{sym, subst}
use Rattle.fvn_combine_drawing.specs.CombineCandidatesRefusals.{IsOpenFault}
use Rattle.fvn_combine_nodes.specs.States.{class_of}
use Rattle.fvn_combine_leaves.specs.Bases.{HaveAlive}
use Rattle.fvn_combine_leaves.specs.Readings.{IsReading}
use Rattle.fvn_combine.specs.Tasks.{Combining}
use Rattle.fvn_combine.proofs.looking.look_at_systems.Goals as goal

pub look_at_refused-requires : goal.look_at_refused-requires
look_at_refused-requires c = record {
  near = c.requires.near;
  kinds = c.requires.kinds;
  reading = c.requires.reading;
  heads = c.requires.heads;
  sorted = c.requires.sorted;
  refused = subst (IsOpenFault c.args.reading.sums) c.in-Err-Basis.field-0-is c.in-Err-Basis.ensures.refused;
}

pub look_at_passed-requires : goal.look_at_passed-requires
look_at_passed-requires c = record {
  near = c.requires.near;
  kinds = c.requires.kinds;
  reading = c.requires.reading;
  heads = c.requires.heads;
  sorted = c.requires.sorted;
  refused = subst (IsOpenFault c.args.reading.sums) c.in-Err-Basis.field-0-is c.in-Err-Basis.ensures.refused;
}

pub bases-requires : goal.bases-requires
bases-requires c = subst (λ (k : Combining). IsReading k.declarations k.table (class_of c.args.state.now) c.args.reading) (sym c.task.view_is) c.requires.reading

pub look_at_bases-requires-clause-alive : goal.look_at_bases-requires-clause-alive
look_at_bases-requires-clause-alive c = subst (λ (k : Combining). HaveAlive k.declarations k.table c.args.state.now c.args.reading.sums c.in-Ok.bases.items) c.task.view_is c.in-Ok.ensures.alive
