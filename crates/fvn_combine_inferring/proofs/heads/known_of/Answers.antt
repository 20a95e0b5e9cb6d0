-- Those that the reading notes, and those of large sums; the operators of a reading are associative.
use Rattle.std.proofs.Common.{refl, sym, ◌∙◌, subst, Contains}
use Rattle.std.proofs.lemmas.List.Elements.{Contains-get_or}
use Rattle.fvn_combine_leaves.proofs.ReadOfState.{sum_operator}
use Rattle.fvn_combine_inferring.proofs.HeadsTold.{read_heads}
use Rattle.fvn_combine_inferring.proofs.heads.known_of.Goals as goal
use Rattle.fvn_combine_inferring.specs.Inferred.{TellHeads}

pub loop-sums-init : goal.loop-sums-init
loop-sums-init c = record {
  heads =
      subst (TellHeads c.args.sig.now c.args.table.now c.args.state.now c.args.sorted) (sym (c.in_ok-heads.ensures ∙ c.as_slice.ensures))
      (read_heads c.args.sig.now c.args.table.now c.args.state.now c.args.sorted c.requires.sums c.requires.closed c.args.reading.now.heads c.requires.reading.heads);
  sorted = refl;
}

pub note_large-requires-clause-heads : goal.note_large-requires-clause-heads
note_large-requires-clause-heads c = c.loop-sums.invariant.heads

pub note_large-requires-clause-associative : goal.note_large-requires-clause-associative
note_large-requires-clause-associative c =
    (sum_operator c.args.sig.now c.args.table.now c.recall_well_made.ensures c.args.state.now c.requires.closed c.args.reading.now c.requires.reading c.sums-item.result
    (subst (λ l. Contains l c.sums-item.result) c.as_slice-sums-items.ensures
    (subst (Contains c.as_slice-sums-items.result.now) (sym c.sums-item.is) (Contains-get_or c.as_slice-sums-items.result.now c.loop-sums.sums-index _ c.loop-sums-test.true)))).associative

pub loop-sums-preserved : goal.loop-sums-preserved
loop-sums-preserved c = record {
  heads = c.in_ok-note_large.ensures.heads;
  sorted = c.in_ok-note_large.ensures.sorted ∙ c.loop-sums.invariant.sorted;
}

pub returns : goal.returns
returns c = c.loop-sums.invariant
