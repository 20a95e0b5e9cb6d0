-- The table holds arguments, is small and has sums; what is read and known is of the task.
use Rattle.std.proofs.Common.{◌≡◌, sym, subst, arith}
use Rattle.fvn_flat.specs.Solving.{problem_of}
use Rattle.fvn_combine_nodes.specs.States.{IsClosed, class_of}
use Rattle.fvn_combine_leaves.specs.Readings.{IsReading}
use Rattle.fvn_combine_inferring.specs.Inferred.{TellHeads}
use Rattle.fvn_combine.specs.Tasks.{Combining}
use Rattle.fvn_combine.proofs.looking.look_at.Goals as goal

pub read-requires-clause-closed : goal.read-requires-clause-closed
read-requires-clause-closed c = subst (λ (k : Combining). IsClosed k.declarations k.table c.args.state.now) (sym c.task.view_is) c.requires

pub read-requires-clause-arguments : goal.read-requires-clause-arguments
read-requires-clause-arguments c = c.tables_hold_arguments.ensures c.task.inside.sig.now (problem_of c.task.inside.problem.now) c.task.inside.table c.task.invariant.well_made c.task.invariant.table_of

pub read-requires-clause-few : goal.read-requires-clause-few
read-requires-clause-few c =
    let n = c.tables_are_small.ensures c.task.inside.sig.now c.task.inside.problem.now.pairs c.task.inside.table c.task.invariant.table_of in
    let m = c.task.invariant.small in
    omega (arith, n, m)

pub known_of-requires-clause-sums : goal.known_of-requires-clause-sums
known_of-requires-clause-sums c =
    c.tables_have_sums.ensures c.task.inside.sig.now c.task.invariant.good.fits (problem_of c.task.inside.problem.now) c.task.invariant.is_given.kinds c.task.inside.table c.task.invariant.well_made c.task.invariant.table_of

pub look_parted-requires : goal.look_parted-requires
look_parted-requires c = record {
  closed = c.requires;
  reading = subst (λ (k : Combining). IsReading k.declarations k.table (class_of c.args.state.now) c.in_ok-reading.reading) c.task.view_is c.in_ok-reading.ensures;
  heads = subst (λ (k : Combining). TellHeads k.declarations k.table c.args.state.now c.in_ok-known.known.sorted c.in_ok-known.known.heads.items) c.task.view_is c.in_ok-known.ensures.heads;
  sorted = subst (λ (k : Combining). c.in_ok-known.known.sorted ≡ k.sorted) c.task.view_is c.in_ok-known.ensures.sorted;
}

pub look_within-requires : goal.look_within-requires
look_within-requires c = record {
  closed = c.requires;
  reading = subst (λ (k : Combining). IsReading k.declarations k.table (class_of c.args.state.now) c.in_ok-reading.reading) c.task.view_is c.in_ok-reading.ensures;
  heads = subst (λ (k : Combining). TellHeads k.declarations k.table c.args.state.now c.in_ok-known.known.sorted c.in_ok-known.known.heads.items) c.task.view_is c.in_ok-known.ensures.heads;
  sorted = subst (λ (k : Combining). c.in_ok-known.known.sorted ≡ k.sorted) c.task.view_is c.in_ok-known.ensures.sorted;
}
