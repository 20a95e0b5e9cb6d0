-- What is told, or what was asked before; the operators of a reading are associative.
use Rattle.std.proofs.Common.{sym, subst, inl, inr, Contains}
use Rattle.std.proofs.lemmas.List.Elements.{Contains-get_or}
use Rattle.fvn_combine_leaves.proofs.ReadOfState.{sum_operator}
use Rattle.fvn_combine_inferring.specs.Inferred.{IsInferred}
use Rattle.fvn_combine_inferring.proofs.inferring.infer_each.Goals as goal

pub loop-sums-init : goal.loop-sums-init
loop-sums-init c = record { told = tt; pairs = c.requires.pairs }

pub infer_of-requires-clause-associative : goal.infer_of-requires-clause-associative
infer_of-requires-clause-associative c =
    (sum_operator c.args.sig.now c.args.table.now c.recall_well_made.ensures c.args.state.now c.requires.closed c.args.reading.now c.requires.reading c.sums-item.result
    (subst (λ l. Contains l c.sums-item.result) c.as_slice-sums-items.ensures
    (subst (Contains c.as_slice-sums-items.result.now) (sym c.sums-item.is) (Contains-get_or c.as_slice-sums-items.result.now c.loop-sums.sums-index _ c.loop-sums-test.true)))).associative

pub infer_of-requires-clause-pairs : goal.infer_of-requires-clause-pairs
infer_of-requires-clause-pairs c = c.loop-sums.invariant.pairs

pub loop-sums-preserved : goal.loop-sums-preserved
loop-sums-preserved c =
    let told = IsInferred c.args.sig.now c.args.table.now c.args.state.now c.args.known.now.sorted in
    record {
      told = elim c.or_told-asked.ensures [
        | inl e ↦ subst told (sym e) c.loop-sums.invariant.told
        | inr e ↦ subst told (sym e) c.in_ok-told.ensures.is
      ];
      pairs = c.in_ok-told.ensures.pairs;
    }
