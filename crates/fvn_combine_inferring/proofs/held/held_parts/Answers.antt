-- What is noted so far; the operators of a reading are associative.
use Rattle.std.proofs.Common.{All, sym, subst, Contains}
use Rattle.std.proofs.lemmas.List.Elements.{All-nil, Contains-get_or}
use Rattle.fvn_combine_leaves.proofs.ReadOfState.{sum_operator}
use Rattle.fvn_combine_inferring.specs.Rows.{IsHeld}
use Rattle.fvn_combine_inferring.proofs.held.held_parts.Goals as goal

pub loop-sums-init : goal.loop-sums-init
loop-sums-init c =
    let held = IsHeld c.args.sig.now c.args.table.now c.args.state.now c.args.known.now.sorted in
    subst (All held) (sym c.new-held.ensures.items) (All-nil held)

pub note_sums-requires-clause-associative : goal.note_sums-requires-clause-associative
note_sums-requires-clause-associative c =
    (sum_operator c.args.sig.now c.args.table.now c.recall_well_made.ensures c.args.state.now c.requires.closed c.args.reading.now c.requires.reading c.sums-item.result
    (subst (λ l. Contains l c.sums-item.result) c.as_slice-sums-items.ensures
    (subst (Contains c.as_slice-sums-items.result.now) (sym c.sums-item.is) (Contains-get_or c.as_slice-sums-items.result.now c.loop-sums.sums-index _ c.loop-sums-test.true)))).associative

pub loop-sums-preserved : goal.loop-sums-preserved
loop-sums-preserved c = c.in_ok-note_sums.ensures

pub returns : goal.returns
returns c = c.loop-sums.invariant
