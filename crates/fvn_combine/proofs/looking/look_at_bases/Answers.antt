-- Where a class is unfilled, no unifier is admitted; else the question is open, or the state is a leaf.
use Rattle.std.proofs.Common.{List, sym, subst, Option, None}
use Rattle.fvn_terms.specs.declared.plain.OpId.{OpId}
use Rattle.fvn_combine_leaves.specs.Bases.{AreBases, HaveAlive}
use Rattle.fvn_combine_leaves.specs.Leaves.{IsQuestion}
use Rattle.fvn_combine_inferring.specs.Inferred.{TellLabels}
use Rattle.fvn_combine.proofs.Inferring.{none_admitted}
use Rattle.fvn_combine.proofs.looking.look_at_bases.Goals as goal

pub labels_of-requires : goal.labels_of-requires
labels_of-requires c = record {
  near = c.requires.near;
  reading = c.requires.reading;
  heads = c.requires.heads;
  sorted = c.requires.sorted;
  bases = subst (AreBases c.args.reading.sums) (sym c.as_slice.ensures.value) c.requires.bases;
  alive = subst (HaveAlive c.args.task.now.declarations c.args.task.now.table c.args.state.now c.args.reading.sums) (sym c.as_slice.ensures.value) c.requires.alive;
}

pub has_no_values-requires : goal.has_no_values-requires
has_no_values-requires c = record {
  near = c.requires.near;
  reading = c.requires.reading;
  labels = subst (TellLabels c.args.task.now.declarations c.args.task.now.table c.args.state.now c.args.task.now.sorted) (sym c.as_slice-2.ensures.value) c.in_ok-labels.ensures.labels;
  bases = subst (AreBases c.args.reading.sums) (sym c.as_slice-3.ensures.value) c.requires.bases;
  alive = subst (HaveAlive c.args.task.now.declarations c.args.task.now.table c.args.state.now c.args.reading.sums) (sym c.as_slice-3.ensures.value) c.requires.alive;
}

pub returns-then-has_no_values : goal.returns-then-has_no_values
returns-then-has_no_values c =
    none_admitted c.args.task.now c.recall.ensures c.sorted_unifiers_go_with.ensures c.args.state.now c.requires.near.closed (c.has_no_values.ensures c.if-has_no_values.true)

pub open_touched-requires-clause-bases : goal.open_touched-requires-clause-bases
open_touched-requires-clause-bases c = subst (AreBases c.args.reading.sums) (sym c.as_slice-5.ensures.value) c.requires.bases

pub open_touched-requires-clause-alive : goal.open_touched-requires-clause-alive
open_touched-requires-clause-alive c = subst (HaveAlive c.args.task.now.declarations c.args.task.now.table c.args.state.now c.args.reading.sums) (sym c.as_slice-5.ensures.value) c.requires.alive

pub asked-requires : goal.asked-requires
asked-requires c =
    let q = subst (IsQuestion c.args.task.now.declarations c.args.task.now.table c.as_slice-4.result.now c.args.state.now) c.in-Some.is c.in_ok-pair.ensures in
    record { closed = c.requires.near.closed; reading = c.requires.reading; heads = c.requires.heads; sorted = c.requires.sorted; left = q.0; right = q.1; «open» = q.2 }

pub look_at_leaf-requires-clause-leaf : goal.look_at_leaf-requires-clause-leaf
look_at_leaf-requires-clause-leaf c =
    let leaf = subst (IsQuestion c.args.task.now.declarations c.args.task.now.table c.as_slice-4.result.now c.args.state.now) c.in-None.is c.in_ok-pair.ensures in
    subst (λ (l : List (Option OpId)). IsQuestion c.args.task.now.declarations c.args.task.now.table l c.args.state.now None) c.as_slice-4.ensures.value leaf
