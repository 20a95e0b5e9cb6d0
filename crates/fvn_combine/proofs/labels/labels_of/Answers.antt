-- Candidates for which the classes have room are obeyed.
use Rattle.std.proofs.Common.{List, sym, ◌∙◌, subst, Option}
use Rattle.fvn_terms.specs.declared.plain.OpId.{OpId}
use Rattle.fvn_combine_nodes.specs.States.{IsClosed, class_of}
use Rattle.fvn_combine_leaves.specs.Bases.{HaveAlive}
use Rattle.fvn_combine_leaves.specs.Leaves.{AreLabels}
use Rattle.fvn_combine_leaves.specs.Readings.{IsReading}
use Rattle.fvn_combine_inferring.specs.Inferred.{TellHeads}
use Rattle.fvn_combine.specs.Tasks.{Combining}
use Rattle.fvn_combine.proofs.Labelled.{labels_told}
use Rattle.fvn_combine.proofs.labels.labels_of.Goals as goal

pub sieve_labels-requires : goal.sieve_labels-requires
sieve_labels-requires c = record {
  closed = subst (λ (k : Combining). IsClosed k.declarations k.table c.args.state.now) (sym c.task.view_is) c.requires.near.closed;
  reading = subst (λ (k : Combining). IsReading k.declarations k.table (class_of c.args.state.now) c.args.reading.now) (sym c.task.view_is) c.requires.reading;
  bases = c.requires.bases;
  alive = subst (λ (k : Combining). HaveAlive k.declarations k.table c.args.state.now c.args.reading.now.sums c.args.bases.now) (sym c.task.view_is) c.requires.alive;
}

pub returns-clause-labels : goal.returns-clause-labels
returns-clause-labels c =
    let k = c.args.task.now in
    let s = c.args.state.now in
    let heads = c.args.known.now.heads.items in
    let old = c.in_ok-labels.labels.items in
    let new = c.sieve_labels.new.labels.items in
    let are = subst (λ (l : List (Option OpId)). AreLabels k.declarations k.table s l old new) c.as_slice.ensures.value
    (subst (λ (k : Combining). AreLabels k.declarations k.table s c.as_slice.result.now old new) c.task.view_is c.sieve_labels.ensures.labels) in
    labels_told k s heads (subst (λ b. TellHeads k.declarations k.table s b heads) c.requires.sorted c.requires.heads) old new c.in_ok-labels.ensures.candidates are

pub returns-clause-as_many : goal.returns-clause-as_many
returns-clause-as_many c = c.sieve_labels.ensures.as_many ∙ c.in_ok-labels.ensures.as_many
